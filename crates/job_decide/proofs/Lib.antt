pub mod Showing
pub mod Means
pub mod Causing
mod FirstLines
