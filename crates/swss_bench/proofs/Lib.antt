pub mod Crossing
mod Distinct
pub mod Readies
pub mod RoutesBelow
