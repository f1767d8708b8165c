pub mod Trail
pub mod Inner
