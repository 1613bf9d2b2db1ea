pub mod Names
pub mod Terms
pub mod Filters
pub mod Requests
pub mod Chained
pub mod Replies
pub mod Keeping
pub mod Laws
