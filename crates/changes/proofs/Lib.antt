-- The laws that the functions' own files cite; and examples.
mod BoardLists
pub mod Vectors
