pub mod Columns
pub mod Answers
pub mod Refusals
pub mod Indexed
pub mod Decides
