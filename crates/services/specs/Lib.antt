pub mod CausesTell
pub mod Ids
pub mod Load
pub mod Table
