pub mod Views
pub mod Dotted
pub mod Escapes
pub mod TypeView
pub mod Reading
pub mod ValueView
pub mod Kept
pub mod Plain
