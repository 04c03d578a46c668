-- the examples of document 01 hold
pub mod Examples
-- laws
pub mod RegistryLaws
pub mod EnteredAgain
pub mod ReductionLaws
pub mod PropagationLaws
pub mod StrictLaws
