pub mod Reads
pub mod Plain
pub mod Causes
pub mod Decides
pub mod Leasts
pub mod Meaning
pub mod Objective
pub mod Outcomes
