-- The definitions that the contracts of `image` cite.
pub mod Progresses
pub mod Checks
