pub mod Moves
pub mod Reading
pub mod Loading
