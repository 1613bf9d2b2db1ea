pub mod Views
pub mod Spelled
pub mod Order
pub mod Below
pub mod Blocks
pub mod Counted
