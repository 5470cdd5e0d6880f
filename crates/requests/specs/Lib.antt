-- The definitions that the contracts of `requests` cite: 01, "The six commands"; and the claim that requests are read back.
pub mod Requests
pub mod RequestFrames
pub mod RoundTrips
