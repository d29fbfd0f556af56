pub mod Causes
pub mod Counts
pub mod Outcomes
pub mod World
