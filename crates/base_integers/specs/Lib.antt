pub mod Entry
pub mod Divides
pub mod Gcd
pub mod Floor
pub mod Residue
