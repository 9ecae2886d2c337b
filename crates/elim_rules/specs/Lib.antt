pub mod Answers
pub mod Solutions
pub mod Congruences
pub mod Sides
pub mod Shadows
pub mod Splinters
