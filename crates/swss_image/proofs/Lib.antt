pub mod Json
pub mod Results
pub mod ReadTexts
pub mod Members
pub mod Images
pub mod Whole
