pub mod Shortness
pub mod Alone
pub mod Replying
pub mod Asking
pub mod Saying
pub mod Serving
pub mod Queries
pub mod Near
