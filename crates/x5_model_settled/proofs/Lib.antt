pub mod Settled
pub mod Runs
pub mod After
pub mod Stamped
pub mod Held
pub mod Steps
