pub mod Rows
pub mod Places
pub mod Positions
pub mod Gives
pub mod Listing
