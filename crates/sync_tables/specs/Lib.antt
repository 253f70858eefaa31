pub mod Tables
pub mod ReadRows
