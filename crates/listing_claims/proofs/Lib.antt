pub mod Lengths
pub mod Sums
pub mod Texts
pub mod States
pub mod Fits
pub mod Judging
pub mod Trails
pub mod Checks
