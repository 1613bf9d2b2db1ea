pub mod Errors
pub mod Told
pub mod Still
pub mod Fresh
pub mod Loops
