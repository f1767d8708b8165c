pub mod Rows
pub mod Table
pub mod Book
pub mod Examples
pub mod Means
pub mod Made
pub mod Sound
