pub mod Forms
pub mod Tables
pub mod Least
pub mod Fitting
pub mod Marks
