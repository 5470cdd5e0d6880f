-- The laws that belong to no one function, by subject.
pub mod Results
pub mod Ends
