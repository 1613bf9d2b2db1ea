pub mod Within
pub mod Laws
pub mod Sending
pub mod Agents
