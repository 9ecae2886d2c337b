pub mod Classes
pub mod Names
pub mod Splits
pub mod Values
pub mod Logs
pub mod Over
