pub mod Kept
pub mod Cut
pub mod Plain
