pub mod Outcomes
pub mod Obliged
mod Apart
mod Texts
mod Running
mod Answering
pub mod Budgets
pub mod Listing
pub mod Meaning
