pub mod Work
pub mod Crew
pub mod States
pub mod Server
