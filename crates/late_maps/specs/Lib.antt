pub mod Chunks
pub mod Lent
pub mod Segments
