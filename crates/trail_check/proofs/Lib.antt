pub mod Rows
pub mod Levels
pub mod Values
pub mod Agreement
pub mod Few
pub mod Shown
pub mod Same
