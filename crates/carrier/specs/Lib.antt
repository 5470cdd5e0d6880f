-- The definitions that the contracts of `carrier` cite, and the claim about a link that is cleared.
pub mod Sending
pub mod Clearing
