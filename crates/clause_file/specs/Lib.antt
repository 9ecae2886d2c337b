pub mod Roots
pub mod Courses
pub mod Verdicts
pub mod Costs
pub mod Ranges
pub mod Answers
