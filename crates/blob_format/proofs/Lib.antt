pub mod BlobFacts
pub mod BlobNames
