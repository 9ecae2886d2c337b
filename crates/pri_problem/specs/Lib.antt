pub mod Answers
pub mod Encoded
pub mod Faults
pub mod Pure
pub mod Reads
pub mod Refusals
pub mod Refused
pub mod Cuttable
