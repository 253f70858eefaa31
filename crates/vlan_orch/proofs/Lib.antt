pub mod Nexts
pub mod Operations
pub mod Starts
