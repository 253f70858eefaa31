pub mod Order
pub mod Sync
pub mod Tying
