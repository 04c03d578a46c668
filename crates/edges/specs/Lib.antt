pub mod Rows
pub mod Order
pub mod Successors
pub mod Fills
