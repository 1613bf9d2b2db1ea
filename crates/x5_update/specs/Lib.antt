pub mod Seats
pub mod Judging
pub mod Plans
pub mod Committing
