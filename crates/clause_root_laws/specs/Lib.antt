pub mod Clausal
pub mod Prepared
