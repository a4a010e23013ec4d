pub mod KindFacts
pub mod MacFacts
