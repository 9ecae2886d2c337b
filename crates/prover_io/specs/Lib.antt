pub mod MemorySink
pub mod MemorySource
pub mod Outside
