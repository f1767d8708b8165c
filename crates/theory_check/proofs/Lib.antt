pub mod Listing
pub mod Places
pub mod Scope
pub mod Sentences
pub mod Rules
pub mod Same
