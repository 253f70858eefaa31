pub mod Best
mod Entries
mod Exact
pub mod Free
mod Orders
pub mod Paired
mod Rising
mod RouteKeys
pub mod Routeless
pub mod Shuffled
