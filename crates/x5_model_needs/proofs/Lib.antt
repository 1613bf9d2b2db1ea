pub mod Few
pub mod Needed
