pub mod States
pub mod Permissions
