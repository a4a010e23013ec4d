pub mod TagFacts
