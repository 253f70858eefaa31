pub mod Outcomes
pub mod Taking
pub mod Marked
pub mod Settled
pub mod Restarting
pub mod ComingBack
