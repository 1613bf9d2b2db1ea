pub mod ByKeys
pub mod Fronts
mod Below
mod Slash
