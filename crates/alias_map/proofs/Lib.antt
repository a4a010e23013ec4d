pub mod AliasFacts
pub mod KeptFacts
pub mod KeyFacts
pub mod Reading
