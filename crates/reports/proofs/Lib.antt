pub mod Signs
pub mod Values
pub mod Rows
pub mod Replies
pub mod Meaning
