pub mod Calling
pub mod Folding
pub mod Gathering
pub mod Layering
pub mod Reaching
