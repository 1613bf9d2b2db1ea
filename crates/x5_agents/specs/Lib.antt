pub mod Growing
pub mod Unnoted
