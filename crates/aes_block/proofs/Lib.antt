pub mod Bytes
pub mod Expanding
pub mod WordFacts
pub mod Tables
pub mod CipherSteps
