pub mod EscapeLaws
mod Examples
mod FilterExamples
pub mod FilterLaws
