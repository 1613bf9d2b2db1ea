pub mod Parts
pub mod Paths
pub mod Spelling
pub mod Views
