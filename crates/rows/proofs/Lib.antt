pub mod Selections
pub mod Words
pub mod Members
pub mod Ahead
pub mod Rows
pub mod Intersections
