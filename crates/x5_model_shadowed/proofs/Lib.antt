pub mod Ordered
pub mod Fitting
pub mod Spelled
pub mod Sending
pub mod Agents
