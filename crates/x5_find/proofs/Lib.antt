pub mod Lowest
pub mod Ways
pub mod Places
pub mod Ends
