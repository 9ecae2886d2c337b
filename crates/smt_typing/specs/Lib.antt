pub mod Steps
pub mod Reading
pub mod Sorts
pub mod Faults
pub mod Bounds
pub mod Judging
