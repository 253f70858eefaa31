pub mod Copies
pub mod Sets
