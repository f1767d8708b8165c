pub mod Loops
pub mod Values
pub mod Contributions
pub mod Sound
pub mod Bounded
pub mod Whole
pub mod Shown
pub mod Stored
