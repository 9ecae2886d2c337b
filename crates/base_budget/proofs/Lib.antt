pub mod Cutting
pub mod Charging
pub mod Meaning
pub mod Tracing
pub mod Following
pub mod Advancing
