-- The laws that belong to no one function, by subject.
mod RequestFrames
pub mod RoundTrips
