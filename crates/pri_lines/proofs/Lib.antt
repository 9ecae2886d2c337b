pub mod Printed
pub mod Losing
pub mod Supporting
