pub mod Filling
pub mod Records
pub mod OneBlock
pub mod Blocks
