pub mod Cuts
pub mod Claims
pub mod FieldFacts
pub mod ValueFacts
pub mod SameFacts
pub mod CredentialFacts
pub mod DateFacts
pub mod HeaderFacts
