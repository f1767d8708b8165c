pub mod Limits
pub mod Counters
pub mod Sentences
