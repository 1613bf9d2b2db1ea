pub mod Texts
pub mod Lines
pub mod Printed
pub mod Blocks
pub mod Runs
pub mod Scripts
pub mod Described
pub mod Summaries
mod Examples
