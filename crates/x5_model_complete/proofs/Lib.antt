pub mod Errors
pub mod Complete
