pub mod Loaded
