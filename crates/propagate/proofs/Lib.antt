pub mod Checks
pub mod Ending
pub mod Meaning
