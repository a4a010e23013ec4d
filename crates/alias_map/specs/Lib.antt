pub mod Aliases
pub mod Kept
