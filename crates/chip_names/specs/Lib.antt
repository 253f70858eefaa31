pub mod Members
pub mod Naming
