pub mod Placed
pub mod Nodes
pub mod Copying
pub mod Counting
