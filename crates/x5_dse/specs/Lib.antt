pub mod Linked
pub mod Slot
pub mod Inside
pub mod Changes
pub mod Run
pub mod Step
pub mod Walks
