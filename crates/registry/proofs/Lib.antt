pub mod Pack
pub mod Quarters
pub mod Stored
pub mod View
pub mod Buckets
pub mod Noted
pub mod Held
