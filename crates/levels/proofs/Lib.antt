pub mod Replies
pub mod Raising
pub mod Lowering
