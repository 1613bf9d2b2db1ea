pub mod HeaderLaws
pub mod ElementLaws
pub mod FaultLaws
pub mod CanonicalLaws
mod Rows
