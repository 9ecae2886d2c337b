pub mod Sides
pub mod Run
