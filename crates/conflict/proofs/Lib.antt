pub mod Conflicts
pub mod Replies
pub mod Answers
