pub mod Sweep
pub mod Naming
