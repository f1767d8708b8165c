pub mod Checks
pub mod Decide
pub mod Steps
pub mod Lists
pub mod Claims
