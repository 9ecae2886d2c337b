pub mod Text
pub mod Variables
pub mod TypedText
pub mod Plain
pub mod Replaced
pub mod Numbers
pub mod Pieces
