pub mod Doing
pub mod Ready
pub mod Stopped
pub mod Explaining
pub mod Probes
