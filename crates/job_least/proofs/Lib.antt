mod Sums
pub mod Braced
pub mod Limits
pub mod Linears
pub mod Terms
pub mod PlainLeast
pub mod PlainValues
pub mod Causing
pub mod Deciding
pub mod Exactly
pub mod Meaning
pub mod Objectives
mod Shaped
mod Stages
mod Told
pub mod Typed
