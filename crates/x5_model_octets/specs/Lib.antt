pub mod Headers
pub mod Elements
pub mod Faults
pub mod Breaches
