-- The definitions that the contracts of `words` cite, and the claim about what they say.
pub mod Sayings
pub mod Ranges
