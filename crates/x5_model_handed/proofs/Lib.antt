pub mod Master
pub mod Induction
