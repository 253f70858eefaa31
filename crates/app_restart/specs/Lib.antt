pub mod Cached
pub mod Difference
pub mod Entry
pub mod Reconcile
pub mod TableName
