-- The laws that the functions' own files cite, and examples.
mod Entries
mod Fronts
mod Values
mod Hexes
mod Readings
pub mod Vectors
