mod DefaultFacts
pub mod DocumentFacts
pub mod KindFacts
pub mod Results
