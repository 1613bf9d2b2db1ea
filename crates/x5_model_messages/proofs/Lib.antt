mod Back
pub mod Chained
pub mod Requests
mod Rows
pub mod Shadows
