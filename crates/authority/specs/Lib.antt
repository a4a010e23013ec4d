pub mod Times
pub mod Setting
pub mod Callers
pub mod Facts
pub mod Allowed
pub mod Questions
