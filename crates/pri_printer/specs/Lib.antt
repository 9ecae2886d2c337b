pub mod Summands
pub mod Text
pub mod Formulas
pub mod Names
pub mod Ranges
pub mod Quotient
pub mod Printed
pub mod Counterexample
