pub mod Claimed
pub mod Destinations
pub mod Kept
pub mod Lent
pub mod Parted
pub mod Registered
pub mod Registry
pub mod Room
