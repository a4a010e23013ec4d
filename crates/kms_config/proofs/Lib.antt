mod NameFacts
mod CredentialFacts
mod ItemFacts
mod DocumentFacts
mod IdentityFacts
mod ConfigFacts
pub mod KindFacts
mod JudgedFacts
mod LeafFacts
mod OrderFacts
mod PartsJudged
mod CredentialsJudged
mod IdentitiesJudged
mod ConfigJudged
