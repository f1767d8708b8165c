pub mod Changing
pub mod Sentences
