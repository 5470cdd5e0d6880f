-- The definitions that every protocol shares.
pub mod Bytes
pub mod Numbers
pub mod Fields
pub mod Padding
pub mod Places
pub mod Comparing
pub mod Search
