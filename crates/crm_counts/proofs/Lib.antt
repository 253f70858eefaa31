mod Changed
pub mod Chips
mod Counting
mod Followed
mod Held
mod Raised
mod Thresholds
mod Told
mod Uses
