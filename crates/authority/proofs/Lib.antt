mod SlashFacts
mod FactFacts
mod TimesFacts
mod QuestionFacts
mod CallerFacts
pub mod LawFacts
