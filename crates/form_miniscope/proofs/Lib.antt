pub mod Lowering
pub mod Miniscope
pub mod Over
pub mod Members
pub mod Lowered
pub mod Depths
