pub mod WordBytes
pub mod Lowest
pub mod Coming
