mod BodyLemmas
mod ContextLemmas
mod ValueLemmas
mod BuildLemmas
mod TextLemmas
mod ContextTexts
mod KeyLemmas
mod ReadFacts
mod KindFacts
pub mod Sizes
pub mod Statuses
