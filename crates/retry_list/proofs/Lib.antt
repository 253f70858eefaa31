pub mod Keyed
pub mod Events
pub mod Filed
pub mod Indexed
pub mod Woken
