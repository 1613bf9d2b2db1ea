mod Rows
pub mod Laws
pub mod SetLaws
pub mod StringLaws
pub mod BitLaws
pub mod Places
pub mod Soundness
pub mod Values
