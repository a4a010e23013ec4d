pub mod KeepingFacts
