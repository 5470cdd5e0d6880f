-- The laws that the functions' own files cite; `Carrying` is cited by those who send, and `Clearing` proves the claim.
pub mod Carrying
mod Letters
pub mod Clearing
