pub mod Explaining
pub mod Session
