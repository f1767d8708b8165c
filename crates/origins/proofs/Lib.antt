pub mod Reaching
pub mod Handing
