mod ClauseCauses
pub mod Exactly
mod Formats
mod Judging
pub mod Meaning
pub mod Causing
mod Proving
mod Shown
mod TreeCauses
