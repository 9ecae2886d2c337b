pub mod Trace
pub mod Ending
pub mod Work
pub mod Runs
pub mod Followed
