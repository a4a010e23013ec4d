mod MarkerFacts
pub mod PageFacts
pub mod ListFacts
