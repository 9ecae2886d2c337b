pub mod Best
pub mod Nearest
pub mod Candidates
pub mod Solutions
