pub mod Propagating
pub mod Putting
pub mod Performing
pub mod Accepting
pub mod Thinned
pub mod Room
