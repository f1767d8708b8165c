pub mod Causes
pub mod Listing
