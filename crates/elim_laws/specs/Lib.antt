pub mod Elimination
pub mod Logs
pub mod Presburger
pub mod Whole
