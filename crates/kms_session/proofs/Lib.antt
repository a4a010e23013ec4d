mod ReplyLemmas
pub mod Proper
