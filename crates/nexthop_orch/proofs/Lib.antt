pub mod Calls
pub mod Dues
pub mod Members
pub mod Takes
