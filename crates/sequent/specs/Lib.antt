pub mod Covers
pub mod Leaf
pub mod Limits
pub mod Rules
pub mod Sequent
pub mod Views
