pub mod Settling
pub mod Heard
pub mod Quiet
pub mod Forcing
pub mod Reaching
