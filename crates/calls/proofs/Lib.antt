pub mod Acting
pub mod Effects
