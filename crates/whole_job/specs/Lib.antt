pub mod Reads
pub mod Ids
pub mod Stamps
