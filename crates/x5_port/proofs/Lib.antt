pub mod Octets
pub mod Found
