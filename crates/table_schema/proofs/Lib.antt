pub mod Places
pub mod Puts
pub mod Keys
pub mod Plans
pub mod Writes
pub mod LastValues
pub mod Merges
pub mod Parts
pub mod Texts
pub mod Routers
pub mod KeyTexts
pub mod ProperKeys
pub mod Hops
pub mod ProperNames
pub mod RowLists
pub mod Restored
pub mod Risen
pub mod TakenBack
mod TwoPairs
mod RoutePairs
