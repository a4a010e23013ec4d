pub mod OpeningFacts
