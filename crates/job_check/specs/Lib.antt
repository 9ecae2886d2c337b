pub mod Causes
pub mod Checked
pub mod Clauses
pub mod Exactly
pub mod Meaning
pub mod Told
