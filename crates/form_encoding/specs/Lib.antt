pub mod Encoding
pub mod Extent
pub mod Meaning
pub mod Occurrences
pub mod Plain
pub mod Problems
pub mod Root
