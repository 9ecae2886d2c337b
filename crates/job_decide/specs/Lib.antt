pub mod Shown
pub mod Decided
pub mod Drilled
pub mod Meaning
pub mod Causes
