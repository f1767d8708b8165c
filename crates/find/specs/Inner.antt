pub mod Asked
pub mod Find
