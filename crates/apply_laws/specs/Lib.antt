pub mod Apply
pub mod Viewed
pub mod Begun
pub mod Following
pub mod Named
pub mod Standing
pub mod Ties
