pub mod Same
pub mod Stores
