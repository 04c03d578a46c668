pub mod Passing
pub mod Head
pub mod Answer
pub mod Kept
pub mod Key
