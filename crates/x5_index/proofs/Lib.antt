pub mod Order
pub mod Search
pub mod Adding
pub mod Taking
pub mod Terms
pub mod Finding
pub mod Laws
pub mod Gathering
