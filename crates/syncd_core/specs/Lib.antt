pub mod Begun
pub mod Next
pub mod Run
pub mod Synced
pub mod Tied
