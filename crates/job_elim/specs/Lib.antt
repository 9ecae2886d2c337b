pub mod Causes
pub mod Eliminated
pub mod Meaning
