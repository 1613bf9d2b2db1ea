pub mod Begun
pub mod Still
