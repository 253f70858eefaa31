pub mod Appended
pub mod BadRows
pub mod CallLines
pub mod Shown
