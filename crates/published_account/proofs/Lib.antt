pub mod Lists
pub mod Adding
pub mod Turns
mod Settling
