pub mod Course
pub mod Outcomes
pub mod Sent
pub mod Joined
