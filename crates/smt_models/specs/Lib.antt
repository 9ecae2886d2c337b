pub mod Defined
pub mod Models
pub mod Printed
pub mod Rows
pub mod Symbols
pub mod Terms
pub mod Values
