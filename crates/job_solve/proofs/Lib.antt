pub mod Causing
pub mod Exactly
pub mod Grounded
pub mod Meaning
mod Outcomes
mod Own
pub mod Saturated
mod Refuted
mod Raising
pub mod Printing
