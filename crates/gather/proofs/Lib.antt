pub mod Held
pub mod Slots
pub mod Putting
pub mod Prefix
pub mod Bounds
pub mod Gathering
pub mod Taking
