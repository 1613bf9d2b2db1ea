pub mod Texts
pub mod Filters
pub mod Scripts
pub mod Held
pub mod Runs
pub mod Files
