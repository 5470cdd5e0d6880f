-- The laws that every protocol shares, by subject.
pub mod Orders
pub mod Conditionals
pub mod Slices
pub mod Bytes
pub mod Places
pub mod Padding
pub mod Sames
pub mod Searches
pub mod Numbers
pub mod Fields
