pub mod Heading
pub mod Judge
pub mod Offsets
pub mod Message
pub mod Parsed
pub mod Head
pub mod Laws
