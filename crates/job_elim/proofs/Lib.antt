pub mod Causing
pub mod Exactly
pub mod Meaning
mod Telling
