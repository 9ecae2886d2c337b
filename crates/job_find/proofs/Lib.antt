mod Answering
pub mod Means
mod Told
