pub mod Views
pub mod Reading
pub mod Found
pub mod Written
pub mod Feeding
pub mod Sights
pub mod States
