pub mod Stages
pub mod Sources
