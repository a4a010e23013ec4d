pub mod EncodingFacts
pub mod PairFacts
