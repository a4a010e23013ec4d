pub mod Journal
pub mod Faults
