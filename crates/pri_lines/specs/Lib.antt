pub mod Constraint
pub mod Lines
pub mod Meaning
