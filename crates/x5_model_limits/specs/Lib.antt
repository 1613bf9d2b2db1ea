pub mod Holding
pub mod Messages
pub mod Doing
pub mod Described
pub mod Laws
pub mod Steps
pub mod Operations
