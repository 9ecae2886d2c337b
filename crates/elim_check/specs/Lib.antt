pub mod Answers
pub mod Checked
pub mod Reading
pub mod Steps
