pub mod Senses
pub mod Forms
pub mod Commands
pub mod Ranges
pub mod OneFurther
pub mod FunctionRanges
pub mod Narrow
pub mod Plain
