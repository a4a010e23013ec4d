pub mod BlockFacts
pub mod GctrFacts
pub mod SealFacts
pub mod TagFacts
