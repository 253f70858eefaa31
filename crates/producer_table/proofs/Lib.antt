pub mod Found
pub mod Merging
pub mod RowWrites
pub mod PendingWrites
pub mod Placed
pub mod Taken
