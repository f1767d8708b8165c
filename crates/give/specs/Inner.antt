pub mod Ready
pub mod Refused
pub mod Trail
