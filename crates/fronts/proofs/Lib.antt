-- The laws that belong to no one function, by subject. The crates above cite those marked `pub mod`, and no definition's text.
pub mod Looks
mod Sums
pub mod Fronts
pub mod MoreBytes
pub mod Sizes
pub mod Encodings
mod Completions
pub mod FrontMeanings
mod Waits
