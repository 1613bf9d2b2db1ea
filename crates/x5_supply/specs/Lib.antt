pub mod Supplied
pub mod Answers
pub mod Copying
