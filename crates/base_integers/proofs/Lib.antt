pub mod Ring
pub mod Order
pub mod Divisors
pub mod Divisor
pub mod Floors
pub mod Residues
pub mod Entries
