pub mod Levels
pub mod Candidate
pub mod Agreement
pub mod Positions
