pub mod Expansions
pub mod Choices
pub mod Rows
pub mod Expanded
