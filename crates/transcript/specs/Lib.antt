-- The definitions that the contracts of `transcript` cite.
pub mod Words
pub mod Lines
pub mod Examples
