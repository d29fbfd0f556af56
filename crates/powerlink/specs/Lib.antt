pub mod AnyHeader
pub mod Collecting
pub mod Given
pub mod Journal
pub mod Reading
pub mod Reporting
pub mod Tables
pub mod Writing
