pub mod Answers
pub mod Lines
pub mod Answered
pub mod Causes
pub mod Meaning
