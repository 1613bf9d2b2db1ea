pub mod OidLemmas
pub mod EscapeLemmas
pub mod NameLemmas
pub mod TextLemmas
