pub mod Held
pub mod Runs
pub mod Scripts
pub mod Files
