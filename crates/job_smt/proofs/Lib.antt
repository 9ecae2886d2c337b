pub mod Answered
pub mod Beside
pub mod Causing
mod Ending
mod Listing
pub mod Telling
pub mod SingleCheck
pub mod Meaning
pub mod Single
mod Raising
mod Making
