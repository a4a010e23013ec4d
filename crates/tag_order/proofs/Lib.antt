pub mod OrderFacts
