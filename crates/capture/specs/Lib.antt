-- The definitions that the contracts of `capture` cite.
pub mod Stages
pub mod Runs
