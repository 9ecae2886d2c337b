pub mod Answering
pub mod Bytes
pub mod Cuts
pub mod Encoded
mod Existing
pub mod Naming
pub mod Reduced
pub mod Sizes
