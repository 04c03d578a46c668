pub mod Reduces
