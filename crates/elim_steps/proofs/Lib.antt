pub mod Works
pub mod Mentioning
pub mod Putting
pub mod Marking
