pub mod CausesTell
pub mod GivenLaws
pub mod Padded
pub mod Places
pub mod ReadBack
pub mod StepLaws
pub mod StepsBack
pub mod WriteLaws
