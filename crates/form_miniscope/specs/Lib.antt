pub mod Lowering
pub mod Miniscope
