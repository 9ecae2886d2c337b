pub mod Typed
pub mod Short
