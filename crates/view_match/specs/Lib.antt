pub mod Indexed
pub mod Keyed
pub mod Keys
pub mod Listed
pub mod Near
pub mod Paired
pub mod Pairs
