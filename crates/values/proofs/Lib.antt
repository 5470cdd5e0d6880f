-- The laws that the functions' own files cite, by subject; and examples.
mod Digits
mod Spans
pub mod Vectors
