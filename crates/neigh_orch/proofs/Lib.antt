pub mod Calls
pub mod Operations
pub mod Starts
pub mod Takes
