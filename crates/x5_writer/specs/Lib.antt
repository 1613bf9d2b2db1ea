pub mod Contents
pub mod Puts
pub mod LeftView
