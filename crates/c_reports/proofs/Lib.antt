pub mod Sizes
pub mod Reporting
