-- The definitions that the contracts of `fronts` cite: 01, "The frame" and "Live reading".
pub mod Frame
pub mod Fronts
