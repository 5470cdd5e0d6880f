-- The laws that belong to no one function, by subject.
pub mod Packets
pub mod Results
pub mod Repetitions
