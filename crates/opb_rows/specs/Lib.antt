pub mod Columns
pub mod Signed
pub mod Inner
