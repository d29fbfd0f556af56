pub mod Behind
pub mod CausesTell
pub mod Coded
pub mod Sections
