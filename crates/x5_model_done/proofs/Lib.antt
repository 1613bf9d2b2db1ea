pub mod Local
pub mod Found
pub mod Doing
pub mod Done
