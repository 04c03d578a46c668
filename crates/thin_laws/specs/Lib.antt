-- the statement
pub mod Statement
-- lists without their repeats
pub mod Repeats
-- what the stage makes of them
pub mod ThinPaths
-- the thin job
pub mod ThinJobs
-- refusals of reading
pub mod Refused
-- the theorems
pub mod Theorems
