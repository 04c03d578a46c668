pub mod Path
pub mod Property
pub mod Access
pub mod Refusals
pub mod Examples
