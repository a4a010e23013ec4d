pub mod Answers
pub mod Run
pub mod Session
pub mod Replying
pub mod Complete
