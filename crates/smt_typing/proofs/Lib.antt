pub mod CommandForms
pub mod Further
pub mod Collecting
pub mod Shapes
pub mod Walking
pub mod Products
pub mod Verdicts
