pub mod KeyOrder
pub mod Reading
pub mod KeyHash
pub mod Sharing
