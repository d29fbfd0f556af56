pub mod CausesTell
pub mod Front
pub mod Places
pub mod ReadBack
pub mod TypeBack
pub mod Values
