pub mod Inner
pub mod Layout
pub mod Whole
