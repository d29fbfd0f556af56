pub mod FlagLines
pub mod FrameLines
pub mod Lines
pub mod ReadBack
pub mod Sizes
pub mod StatusLines
pub mod Twelve
pub mod WriteBack
