pub mod Meaning
pub mod Merge
pub mod Computed
pub mod Examples
pub mod Represents
