pub mod Overs
pub mod Seeking
