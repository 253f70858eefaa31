pub mod Alike
pub mod Calls
mod Counted
mod Lists
mod Making
mod Removing
mod Renamed
mod Setting
mod Shown
pub mod Standing
mod Tied
