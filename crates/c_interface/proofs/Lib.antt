pub mod Numbers
pub mod Telling
