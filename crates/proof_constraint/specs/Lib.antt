pub mod Text
pub mod Behind
pub mod State
pub mod Move
pub mod Machine
pub mod Places
pub mod Ranges
pub mod Steps
