pub mod Reading
pub mod EntryTexts
pub mod ContextText
pub mod AgentText
pub mod NetworkText
pub mod Mentioned
pub mod StartText
pub mod WorldFile
