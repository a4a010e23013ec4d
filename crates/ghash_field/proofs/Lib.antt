pub mod GhashFacts
pub mod ProductFacts
