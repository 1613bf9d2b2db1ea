pub mod ShadowViews
pub mod Sayable
pub mod Direct
pub mod Totals
