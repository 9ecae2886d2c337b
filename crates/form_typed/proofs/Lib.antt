pub mod Values
pub mod Stability
pub mod Connectives
pub mod Rows
pub mod Folds
