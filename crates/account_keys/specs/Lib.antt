pub mod Keys
pub mod Policies
pub mod KeyChanges
pub mod Aliases
pub mod Grants
