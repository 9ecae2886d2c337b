pub mod Puts
pub mod Values
