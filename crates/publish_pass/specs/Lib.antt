pub mod Pass
pub mod Desks
