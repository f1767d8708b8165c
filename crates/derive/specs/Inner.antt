pub mod Settle
pub mod Stopped
