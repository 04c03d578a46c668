pub mod Predecessors
pub mod IdLists
pub mod Stamps
pub mod Checked
pub mod Answers
pub mod Blocks
