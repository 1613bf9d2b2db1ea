pub mod Carrying
pub mod Licensing
pub mod Opening
pub mod Journals
pub mod Queries
pub mod Growing
pub mod Refusing
