pub mod Inner
pub mod Below
