mod Kept
mod Again
mod Rests
pub mod CallFacts
mod EventFacts
pub mod Makers
mod Fronts
pub mod Orders
