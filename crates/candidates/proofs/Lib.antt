pub mod Passing
pub mod Trying
