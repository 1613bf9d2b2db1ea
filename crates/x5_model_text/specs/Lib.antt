pub mod TypeText
pub mod ValueText
pub mod NameText
pub mod Filters
pub mod FilterGrammar
