pub mod Premises
pub mod Closing
pub mod Yielding
pub mod Giving
pub mod Denying
pub mod Walking
pub mod Proving
pub mod Knowing
pub mod Clauses
mod Outs
mod Overs
pub mod Given
