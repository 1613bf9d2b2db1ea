pub mod KeyLaws
pub mod Prefixes
pub mod Lists
pub mod Ascending
pub mod Decide
