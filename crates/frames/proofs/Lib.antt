-- The laws that belong to no one function, by subject. The crates above cite those marked `pub mod`, and no definition's text.
pub mod FinishedFrames
pub mod Writes
pub mod RoundTrips
pub mod OneFrames
pub mod Readings
mod Wholes
mod Turns
mod Positions
mod Stretches
mod Steps
pub mod Calls
pub mod FedAlone
pub mod LiveReadings
pub mod PlainRuns
pub mod Remains
pub mod Vectors
