pub mod Streaming
pub mod OneProof
pub mod Places
pub mod Parts
pub mod Own
pub mod OneRefusal
pub mod Growth
pub mod Whole
