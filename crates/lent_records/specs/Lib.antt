pub mod Records
pub mod Inner
pub mod Columns
