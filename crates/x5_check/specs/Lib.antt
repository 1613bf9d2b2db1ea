pub mod Rows
pub mod RowOrder
pub mod Views
pub mod Numbers
pub mod Kinds
pub mod Parts
pub mod Indexed
