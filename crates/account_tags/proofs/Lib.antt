pub mod Doing
pub mod PageFacts
