pub mod Following
pub mod KeyIds
pub mod Passing
pub mod Done
pub mod Fit
pub mod Authorizing
pub mod Referring
pub mod TokenFacts
mod PrincipalFacts
pub mod Holding
