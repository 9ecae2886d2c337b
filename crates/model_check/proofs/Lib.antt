pub mod Decided
pub mod Numbers
