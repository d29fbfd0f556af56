pub mod Kinds
pub mod Write
