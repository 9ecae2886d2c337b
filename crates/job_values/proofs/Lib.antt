pub mod Denied
pub mod Found
pub mod Refutes
