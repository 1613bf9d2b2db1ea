pub mod Once
pub mod Passed
pub mod Bounded
