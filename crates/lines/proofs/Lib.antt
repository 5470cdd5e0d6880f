-- The laws that the functions' own files cite, the claims' proofs, and examples.
mod Newlines
mod Parts
mod Nexts
pub mod Claims
pub mod Vectors
