pub mod Once
pub mod Rules
pub mod Order
pub mod Joins
pub mod Propagates
