pub mod Addresses
pub mod Calls
pub mod Interfaces
pub mod Operations
pub mod Routers
pub mod Takes
pub mod Unshared
