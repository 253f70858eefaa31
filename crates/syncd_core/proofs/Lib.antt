mod Failing
mod InOrder
mod Sorted
pub mod Ties
