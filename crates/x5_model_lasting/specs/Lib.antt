pub mod Lasting
pub mod Keeping
