pub mod Symbols
pub mod Between
pub mod Closing
pub mod Sides
