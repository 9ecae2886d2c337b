pub mod Divisions
pub mod EquationResults
pub mod Bounds
pub mod ShadowResults
