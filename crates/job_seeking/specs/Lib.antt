pub mod Over
pub mod Sought
