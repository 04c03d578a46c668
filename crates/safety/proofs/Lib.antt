-- runs of control, and what a job's propagation holds along them
pub mod RunLaws
pub mod StageSafe
-- the theorems, and what stands beside them
pub mod Demand3
pub mod StrictSame
pub mod Witness
pub mod Counterexamples
pub mod StrictWitness
