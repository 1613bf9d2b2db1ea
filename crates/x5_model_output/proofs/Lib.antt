pub mod Counting
pub mod Telling
mod Examples
