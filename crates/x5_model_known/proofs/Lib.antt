pub mod Finding
pub mod Describing
pub mod Counted
pub mod Replying
pub mod Resolving
pub mod AtLines
