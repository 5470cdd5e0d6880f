-- The laws that belong to no one function, by subject.
pub mod Replies
pub mod ReplyFrames
pub mod RoundTrips
