pub mod Answers
pub mod Draw
pub mod Iv
pub mod Laws
pub mod Line
