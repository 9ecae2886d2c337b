pub mod BlockReading
pub mod Classes
pub mod Grammar
pub mod MachineStates
pub mod Machine
pub mod Reading
pub mod First
