pub mod Stamping
pub mod Entries
