pub mod ASnd
pub mod SoA
pub mod SoC
