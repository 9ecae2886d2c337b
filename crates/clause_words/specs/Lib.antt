pub mod Tokens
pub mod Reading
pub mod Numbers
pub mod Terms
pub mod Rising
pub mod Spelling
pub mod Texts
pub mod Places
