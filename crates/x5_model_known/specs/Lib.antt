pub mod Holding
pub mod Counted
pub mod Replying
pub mod Resolving
pub mod AtLines
