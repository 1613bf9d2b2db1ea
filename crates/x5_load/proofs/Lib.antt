pub mod Pins
pub mod Listing
pub mod Copied
pub mod Texts
pub mod Dates
pub mod Known
pub mod Whole
pub mod Referring
