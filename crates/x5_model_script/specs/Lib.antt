pub mod Words
pub mod Texts
pub mod Lines
pub mod Script
pub mod Named
