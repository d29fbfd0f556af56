pub mod Arrival
pub mod AsSent
pub mod Calls
pub mod Example
pub mod Exchanges
