-- The definitions that the contracts of `values` cite.
pub mod Bytes
pub mod Spans
pub mod Words
pub mod Fields
pub mod Examples
