pub mod Breaches
pub mod StateView
pub mod Places
pub mod Comes
pub mod Ahead
