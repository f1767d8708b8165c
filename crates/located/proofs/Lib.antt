pub mod Signs
pub mod Refusing
