pub mod Knowledge
pub mod Described
pub mod Coherent
pub mod Scopes
pub mod Looking
pub mod Leading
pub mod Changing
