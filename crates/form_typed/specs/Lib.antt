pub mod Formula
pub mod Lists
pub mod Sorts
pub mod Table
pub mod Truth
