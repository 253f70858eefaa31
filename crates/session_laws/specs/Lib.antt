pub mod Core
pub mod Workers
pub mod Events
pub mod Standing
pub mod Leading
pub mod Turning
pub mod Service
