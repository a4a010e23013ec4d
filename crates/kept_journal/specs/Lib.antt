pub mod Keeping
pub mod Laws
pub mod Lines
pub mod Lost
pub mod Reading
pub mod Starts
pub mod Tells
