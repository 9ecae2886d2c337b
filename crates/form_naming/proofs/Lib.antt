pub mod Naming
pub mod Keeping
pub mod Comparing
pub mod Members
