pub mod Traces
pub mod Passing
