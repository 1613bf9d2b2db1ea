pub mod Judges
pub mod Settled
pub mod Runs
pub mod Afterwards
pub mod Held
