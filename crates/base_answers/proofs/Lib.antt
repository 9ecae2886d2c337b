pub mod Meeting
mod Putting
