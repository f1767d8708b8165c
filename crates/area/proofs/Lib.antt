pub mod KindNumbers
pub mod Words
pub mod Theory
