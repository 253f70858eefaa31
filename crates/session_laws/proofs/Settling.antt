pub mod Leading
pub mod Running
pub mod Popping
pub mod Walking
pub mod Turning
pub mod Turned
pub mod Settling
