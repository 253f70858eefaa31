pub mod OpWrites
pub mod SyncedRows
pub mod FirstKeys
mod KeySets
