pub mod CausesTell
pub mod Ids
pub mod Laws
pub mod Loading
pub mod Tables
