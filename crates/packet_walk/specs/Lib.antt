pub mod Sends
pub mod Tables
pub mod Walk
