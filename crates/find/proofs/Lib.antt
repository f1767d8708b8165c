pub mod Sentences
pub mod Speech
pub mod Scan
