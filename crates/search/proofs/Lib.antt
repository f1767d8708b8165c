pub mod Turning
pub mod Answering
