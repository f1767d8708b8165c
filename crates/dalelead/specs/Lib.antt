pub mod Public
pub mod Stored
