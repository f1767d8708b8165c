pub mod One
pub mod Refresh
