pub mod Inner
pub mod Interface
