pub mod CutFacts
