pub mod Sessions
pub mod Named
pub mod Awaited
pub mod Ended
pub mod Turns
pub mod Quiet
pub mod Drained
pub mod Between
