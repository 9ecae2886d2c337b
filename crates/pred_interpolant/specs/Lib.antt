pub mod Fit
pub mod Marks
pub mod Copies
pub mod Replaced
pub mod Middle
pub mod Made
