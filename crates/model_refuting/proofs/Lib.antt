pub mod Body
pub mod Judged
pub mod Refuted
pub mod Shapes
