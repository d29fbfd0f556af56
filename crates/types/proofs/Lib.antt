pub mod CausesTell
pub mod CodeCauses
pub mod Codes
pub mod ConstantsTell
pub mod Modes
pub mod PollBack
pub mod Priorities
pub mod ReadBack
