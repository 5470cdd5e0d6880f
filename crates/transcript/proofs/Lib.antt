-- The document's examples.
pub mod Vectors
