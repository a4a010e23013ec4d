pub mod Bytes
pub mod Parts
pub mod Heads
pub mod Answering
pub mod ManyLines
pub mod OneHead
