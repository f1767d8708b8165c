pub mod Of
pub mod Room
pub mod Stored
pub mod Words
