pub mod Blob
pub mod Names
pub mod Laws
pub mod Reading
