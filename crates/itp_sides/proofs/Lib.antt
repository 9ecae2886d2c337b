pub mod Renaming
pub mod Agreeing
pub mod Standing
pub mod Quantifying
pub mod Parting
pub mod Lines
