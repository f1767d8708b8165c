pub mod Parts
pub mod Blanking
