pub mod GatherLaws
pub mod Places
pub mod ScriptLaws
pub mod NamedLaws
