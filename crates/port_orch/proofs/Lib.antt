pub mod Calls
pub mod Operations
pub mod Sets
pub mod Starts
pub mod Takes
