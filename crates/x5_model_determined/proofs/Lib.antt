pub mod Splits
pub mod Loops
pub mod Courses
pub mod Views
pub mod Once
