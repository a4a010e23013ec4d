pub mod Answers
pub mod Pairs
pub mod Rules
pub mod Growing
pub mod Reading
