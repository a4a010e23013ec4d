pub mod MessageLemmas
pub mod LineLemmas
pub mod ReplyLemmas
pub mod SessionLemmas
pub mod Alone
