-- The laws that belong to no one function, by subject.
pub mod Storing
pub mod Slices
