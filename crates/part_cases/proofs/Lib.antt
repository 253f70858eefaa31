mod Distinct
mod Linked
