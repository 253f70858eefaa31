pub mod Begins
pub mod Calls
pub mod Dues
pub mod Goals
pub mod Operations
pub mod Places
pub mod Starts
