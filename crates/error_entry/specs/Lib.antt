pub mod CausesTell
pub mod Entry
pub mod ReadBack
pub mod Values
