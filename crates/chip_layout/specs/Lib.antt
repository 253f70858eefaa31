pub mod Answered
pub mod Bodies
pub mod Counted
pub mod Grouped
pub mod Layout
pub mod Owned
pub mod Renamed
pub mod Seen
