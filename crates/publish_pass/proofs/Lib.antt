pub mod PassLemmas
pub mod Meeting
pub mod OwnPlaces
mod Lookups
mod Agreeing
pub mod Between
