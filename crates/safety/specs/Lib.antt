-- the statement
pub mod Runs
pub mod Statement
-- reading a path
pub mod ReadingPathsLaws
-- propagation
pub mod RegistrySafe
pub mod ReductionSafe
pub mod JoinSafe
pub mod PropagationSafe
-- the tree
pub mod TreeSafe
-- the notation of the examples
pub mod Notation
