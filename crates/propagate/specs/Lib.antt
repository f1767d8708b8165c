pub mod Propagate
