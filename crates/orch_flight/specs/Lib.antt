pub mod Needing
pub mod Operation
pub mod Starting
pub mod Calling
pub mod Taking
pub mod Sharing
pub mod Grouping
