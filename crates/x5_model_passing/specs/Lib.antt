pub mod Passing
pub mod Acceptance
pub mod Taking
pub mod Due
