pub mod Beginning
pub mod Theorems
