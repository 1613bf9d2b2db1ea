pub mod Networks
pub mod Steps
pub mod Sendable
