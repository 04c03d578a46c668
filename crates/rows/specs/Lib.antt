pub mod Members
pub mod Rows
