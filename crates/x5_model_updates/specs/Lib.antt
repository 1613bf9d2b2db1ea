pub mod Standing
pub mod Judging
pub mod Afterwards
pub mod Keeping
