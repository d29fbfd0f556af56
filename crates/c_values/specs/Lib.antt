pub mod Answers
pub mod Values
