mod EachKind
mod Filtered
pub mod Lengths
mod Left
mod Members
mod Modes
mod Staying
mod Steps
mod Tables
pub mod Turns
