pub mod Joined
pub mod Mapped
pub mod Sorting
pub mod Comparing
pub mod Naming
pub mod Below
pub mod Blocks
mod Counting
