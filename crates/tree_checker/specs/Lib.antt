pub mod Answering
pub mod Faults
pub mod Hand
pub mod Walking
pub mod Texts
pub mod Told
pub mod Frames
