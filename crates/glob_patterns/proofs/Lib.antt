pub mod FitFacts
pub mod LetterFacts
pub mod MarkFacts
pub mod PartFacts
pub mod StepFacts
