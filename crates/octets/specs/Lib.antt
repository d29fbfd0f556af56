pub mod Mark
pub mod Numbers
pub mod Part
pub mod ReadBack
pub mod Trim
