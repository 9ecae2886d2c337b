pub mod Answers
pub mod Marking
pub mod Prices
pub mod Views
