pub mod Spelled
pub mod Marks
pub mod Kept
pub mod Here
