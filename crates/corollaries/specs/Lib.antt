pub mod Leaves
pub mod Demand3
pub mod StrictSame
pub mod Thin
pub mod SheetNodes
