pub mod Event
pub mod Index
pub mod Reasons
pub mod Listed
