pub mod Expressions
pub mod Atoms
pub mod Grammar
pub mod First
pub mod Machine
pub mod Cuts
