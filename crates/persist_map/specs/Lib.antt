pub mod Digits
pub mod Groups
pub mod Pairs
pub mod Parts
