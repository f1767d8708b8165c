pub mod Needs
pub mod Moves
pub mod Changes
pub mod Advancing
pub mod OnTrail
pub mod Refused
pub mod Giving
