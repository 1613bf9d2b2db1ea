pub mod OccurrenceLemmas
pub mod FilterLemmas
pub mod CopyLemmas
pub mod ParseLemmas
