pub mod Numbers
pub mod Lists
pub mod Shapes
pub mod Collecting
pub mod Euclid
pub mod Ranged
pub mod CommandForms
pub mod RangedCommands
