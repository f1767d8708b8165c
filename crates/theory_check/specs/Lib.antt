pub mod Theory
pub mod Inner
