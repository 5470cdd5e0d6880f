-- The laws that belong to no one function, by subject.
mod Headers
pub mod TableFrames
pub mod Lawfuls
pub mod OneGoes
pub mod Kept
pub mod EndRequests
pub mod Unanswered
pub mod Checks
pub mod RepeatedFrames
pub mod LastLengths
pub mod Openings
