pub mod Programs
pub mod Fronts
