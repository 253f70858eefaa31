pub mod Reading
pub mod ToSync
pub mod Calls
pub mod Settling
pub mod Quiet
pub mod Logged
pub mod Order
pub mod Bounds
