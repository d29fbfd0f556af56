pub mod BitField
pub mod CausesTell
pub mod Fields
pub mod Given
pub mod Parts
pub mod ReadBack
pub mod Steps
