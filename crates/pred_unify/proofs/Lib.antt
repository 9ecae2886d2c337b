pub mod Clashes
pub mod Sorting
pub mod Partners
pub mod Pures
pub mod Making
pub mod Leaves
