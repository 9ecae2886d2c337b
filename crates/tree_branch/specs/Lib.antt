pub mod Choosing
pub mod Passed
pub mod Standing
pub mod Pairing
pub mod Within
