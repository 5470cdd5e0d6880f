-- The definitions that the contracts of `phrases` cite: docs/CONSOLE.md, "Commands", "Lines" and "Bad lines".
pub mod Spaces
pub mod Table
pub mod Names
pub mod Numbers
pub mod Pairs
pub mod Phrases
pub mod Messages
pub mod Places
pub mod Examples
