pub mod Range
pub mod Linear
pub mod Combination
pub mod Order
pub mod Cross
