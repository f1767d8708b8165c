pub mod Parts
pub mod Frames
pub mod Rules
