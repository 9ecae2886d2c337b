pub mod Bytes
pub mod Kinds
pub mod Lexemes
pub mod Spellings
pub mod Terminals
pub mod Tokenization
pub mod Written
