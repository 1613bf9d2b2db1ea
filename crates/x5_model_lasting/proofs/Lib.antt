pub mod Lines
pub mod Replies
pub mod Finishing
pub mod Holds
pub mod Composes
pub mod Sent
