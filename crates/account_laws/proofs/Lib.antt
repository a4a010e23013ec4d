pub mod Histories
mod Allowing
mod HeldFacts
mod AskingFacts
mod Serving
mod Retiring
mod DeadTokens
mod Standing
mod TagOrder
mod Joining
mod StateFacts
mod LawSealings
pub mod LawFacts
mod MacFacts
mod BootFacts
