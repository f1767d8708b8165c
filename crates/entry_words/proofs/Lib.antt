pub mod Signs
pub mod Joining
