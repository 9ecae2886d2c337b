pub mod Cells
pub mod Ownership
pub mod Lends
pub mod History
pub mod Links
pub mod Trail
pub mod Walk
