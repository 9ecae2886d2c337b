pub mod Arms
pub mod Atomic
pub mod Budgets
pub mod Choices
pub mod Outcomes
pub mod Unfolded
pub mod ByRule
pub mod Turning
