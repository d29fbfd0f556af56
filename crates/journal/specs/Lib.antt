pub mod Rest
pub mod Streams
