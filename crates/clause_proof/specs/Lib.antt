pub mod Atoms
pub mod Clauses
pub mod Lines
pub mod Proofs
