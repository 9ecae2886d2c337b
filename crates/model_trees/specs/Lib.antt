pub mod Levels
pub mod Open
pub mod Refutes
pub mod Rows
pub mod Symbols
pub mod Walk
