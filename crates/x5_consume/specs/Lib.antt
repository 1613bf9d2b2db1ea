pub mod Steps
pub mod Ready
pub mod Taken
pub mod Building
