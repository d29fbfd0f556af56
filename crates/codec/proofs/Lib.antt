pub mod AnyTable
pub mod CausesTell
pub mod FrameLaws
pub mod SoCLaws
