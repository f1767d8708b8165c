pub mod Fits
pub mod Told
pub mod Checks
