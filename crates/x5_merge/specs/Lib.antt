pub mod Order
pub mod Merging
