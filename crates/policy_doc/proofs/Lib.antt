mod FormFacts
mod PathFacts
mod CallerFacts
mod TextFacts
mod ValueFacts
mod OperatorFacts
pub mod GrammarFacts
mod TokenFacts
mod PointerFacts
pub mod PlaceFacts
mod OrderFacts
mod ReadingFacts
pub mod ConditionDecision
pub mod NamedDecision
mod JudgedFacts
mod PartsJudged
mod PlacesStand
