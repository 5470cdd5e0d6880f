-- The definitions that the contracts of `replies` cite: 01, "The six commands"; and the claim that replies are read back.
pub mod Replies
pub mod ReplyFields
pub mod RoundTrips
pub mod ReplyFrames
