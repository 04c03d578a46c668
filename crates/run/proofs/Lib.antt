pub mod Between
pub mod Responding
