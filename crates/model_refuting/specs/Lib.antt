pub mod Below
pub mod Refuting
pub mod Tests
