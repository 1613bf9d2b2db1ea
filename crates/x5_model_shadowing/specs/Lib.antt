pub mod Holding
pub mod Messages
pub mod Lines
pub mod Files
