pub mod Scan
pub mod Tables
pub mod Longest
pub mod Spelled
pub mod Comments
pub mod Pieces
pub mod Once
pub mod Writing
