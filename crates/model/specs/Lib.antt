-- definitions
pub mod Lists
pub mod ReadingPaths
pub mod Sets
pub mod Registry
pub mod Reduction
pub mod Visit
pub mod Rounds
pub mod Propagation
pub mod Forest
pub mod Tree
pub mod ReadingBytes
pub mod RawReads
pub mod Job
pub mod Stage
pub mod Answer
pub mod JobBytes
pub mod Thin
pub mod Strict
-- the examples of document 01, and others beside them
pub mod PathExamples
pub mod Examples
pub mod ThinExamples
pub mod StrictExamples
pub mod SheetExamples
pub mod RawReadExamples
-- laws
pub mod Tests
pub mod ListLaws
pub mod SetLaws
pub mod RegistryLaws
pub mod ReductionLaws
pub mod VisitLaws
pub mod RoundsLaws
pub mod PropagationLaws
