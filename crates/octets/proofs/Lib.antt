pub mod Elements
pub mod Le
pub mod NumberBack
pub mod ReadBack
pub mod Sets
pub mod Trim
