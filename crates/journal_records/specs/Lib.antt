pub mod CausesTell
pub mod InParts
pub mod Listing
pub mod Parts
pub mod ReadBack
pub mod Record
pub mod Text
pub mod Whole
