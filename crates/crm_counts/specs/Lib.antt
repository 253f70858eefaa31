pub mod Above
pub mod Alarms
pub mod Counted
pub mod Crm
pub mod Effects
