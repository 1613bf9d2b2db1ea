pub mod Sorting
pub mod Merges
pub mod Searching
pub mod Views
pub mod Comparing
pub mod Halves
