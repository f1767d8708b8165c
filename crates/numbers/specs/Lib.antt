pub mod Extended
pub mod Inner
pub mod Words
pub mod Text
