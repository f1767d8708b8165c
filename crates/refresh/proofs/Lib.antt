pub mod Touching
pub mod Passing
pub mod Matching
pub mod WholeNext
