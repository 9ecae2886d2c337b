pub mod Words
pub mod Commands
pub mod Levels
pub mod Views
pub mod Symbols
pub mod Least
pub mod Faults
pub mod Marks
