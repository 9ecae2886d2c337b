mod Accepted
mod Answering
mod Commanding
mod Finds
mod Finish
mod Flat
mod Looks
pub mod Naming
mod Pairs
mod Reading
mod Rows
mod Rules
mod Spelt
mod Walks
