pub mod Words
pub mod Scanning
pub mod Spellings
pub mod Reading
pub mod Lines
