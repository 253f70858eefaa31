pub mod Changing
pub mod Members
pub mod Naming
pub mod Owners
pub mod Split
pub mod Worked
