pub mod Agreement
pub mod Record
