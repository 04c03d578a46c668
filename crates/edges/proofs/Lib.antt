pub mod Noting
pub mod Filling
pub mod Ordering
pub mod Marking
pub mod Succeeding
pub mod Graphs
pub mod Jobs
pub mod Fronts
