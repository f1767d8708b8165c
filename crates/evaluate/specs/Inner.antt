pub mod Known
pub mod Of
pub mod Room
pub mod Sentence
pub mod Words
