pub mod Told
pub mod Body
pub mod Refused
pub mod Coming
pub mod Trees
