pub mod Sifting
pub mod Passes
