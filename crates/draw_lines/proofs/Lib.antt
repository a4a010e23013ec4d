pub mod DrawFacts
pub mod IvFacts
