mod Added
mod GroupHops
pub mod Ids
mod NextHops
pub mod SameNames
