-- The laws that the functions' own files cite, and examples; other crates cite those marked `pub mod`.
pub mod Digits
pub mod Decimals
pub mod Hexes
pub mod Joining
mod Numbers
pub mod Texts
pub mod Vectors
