pub mod Bits
pub mod Nodes
pub mod Blocks
pub mod Whole
