pub mod Ops
pub mod Synced
