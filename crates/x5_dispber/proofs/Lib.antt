pub mod Clock
mod Found
mod InOrder
mod Parts
mod ShadowIsSayable
mod ShadowSpelled
mod DirectParts
mod Once
mod Totals
