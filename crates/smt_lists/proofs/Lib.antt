pub mod Folds
pub mod Steps
pub mod Complete
pub mod Reached
pub mod Outcomes
pub mod States
pub mod Texts
pub mod Cutting
