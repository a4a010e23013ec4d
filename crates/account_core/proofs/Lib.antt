pub mod Histories
mod OwnPolicies
mod Decisions
pub mod GoingOn
pub mod EntryFacts
pub mod Fitting
