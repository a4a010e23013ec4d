pub mod Laws
pub mod Material
pub mod Sealed
