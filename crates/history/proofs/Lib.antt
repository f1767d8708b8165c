pub mod Claim
pub mod Public
pub mod Replies
pub mod Sentences
pub mod Stands
pub mod Steps
pub mod Ways
