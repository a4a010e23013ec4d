pub mod Principals
pub mod Constraints
pub mod Grants
pub mod Tables
