pub mod Records
pub mod Ring
