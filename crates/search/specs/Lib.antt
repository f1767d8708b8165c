pub mod Search
pub mod Inner
