-- Laws of every kind of CRC, by subject.
mod Xor
mod Tests
pub mod Updates
pub mod Linear
pub mod TableStep
pub mod Slicing
pub mod Tables
pub mod Meeting
pub mod Folding
pub mod Bounds
pub mod Parts
pub mod CountedParts
pub mod Multiples
pub mod Vectors
pub mod Widths
