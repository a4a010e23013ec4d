pub mod Awaited
pub mod Endings
pub mod HeadReading
pub mod JournalFacts
pub mod ReadFacts
pub mod ReadingSoFar
pub mod SealFacts
