pub mod Lines
pub mod Asking
pub mod Hearing
pub mod Readings
pub mod Begun
