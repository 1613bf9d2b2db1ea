pub mod Cursor
pub mod WordLaws
pub mod NumberLaws
pub mod ValueLaws
pub mod FaultLaws
pub mod ReaderLaws
