pub mod Routers
pub mod Interfaces
