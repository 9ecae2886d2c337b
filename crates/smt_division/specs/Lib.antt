pub mod Made
pub mod Divisors
pub mod Forms
pub mod Terms
pub mod Views
pub mod Division
pub mod Commands
