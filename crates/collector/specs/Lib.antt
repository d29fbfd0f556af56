pub mod AnyTable
pub mod Bounds
pub mod Calls
pub mod CausesTell
pub mod Layout
pub mod Rules
