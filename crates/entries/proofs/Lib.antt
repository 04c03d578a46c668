pub mod EqualPaths
