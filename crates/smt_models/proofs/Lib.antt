pub mod Bytes
pub mod Defining
pub mod Evaluated
pub mod Meaning
pub mod Parameters
pub mod Printing
pub mod Truths
