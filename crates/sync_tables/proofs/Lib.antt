pub mod Membership
mod Laid
pub mod Merged
pub mod Waits
pub mod Popped
pub mod Walks
pub mod LeftWaiting
pub mod Batches
mod Again
pub mod KeysLeave
mod RowKeys
mod ReadRows
