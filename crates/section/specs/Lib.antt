pub mod CausesTell
pub mod Write
