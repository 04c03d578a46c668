pub mod Thins
