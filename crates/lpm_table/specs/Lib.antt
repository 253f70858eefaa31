pub mod Below
pub mod Longest
pub mod Parts
pub mod Trees
