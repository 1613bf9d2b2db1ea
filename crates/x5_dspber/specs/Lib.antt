pub mod ChainedViews
pub mod Direct
pub mod Sayable
