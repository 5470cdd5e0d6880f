-- The definitions that the contracts of `ends` cite.
pub mod Ends
