pub mod Heights
pub mod Layers
pub mod Pairing
pub mod Places
pub mod Written
