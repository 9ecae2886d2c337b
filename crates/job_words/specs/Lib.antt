pub mod Jobs
pub mod Shapes
pub mod Uses
