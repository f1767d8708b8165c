pub mod Fields
pub mod Rows
pub mod PutOn
pub mod TakenOff
pub mod Cutting
pub mod Headers
