pub mod Calls
pub mod Exchanges
pub mod Log
