-- laws of readings
pub mod Passing
pub mod PassingMany
pub mod Bounds
pub mod Many
pub mod Noting
pub mod Fields
pub mod Heads
pub mod Ends
-- what the functions' proofs cite
pub mod IdFields
pub mod Stored
pub mod Records
pub mod Noted
pub mod ReadAgain
-- what later stages go on from
pub mod Accepted
pub mod RecordParts
pub mod BlockAgain
pub mod BlocksAt
