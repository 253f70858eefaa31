pub mod Answered
pub mod Begins
pub mod Begun
pub mod Moves
pub mod RouterIds
pub mod Rows
pub mod Stages
pub mod Unhindered
mod Unused
