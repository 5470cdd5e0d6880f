-- The definitions that the contracts of `session` cite: 01, "The record and the board list", "How the session answers" and
-- "Outcome numbers"; document 02, K2 and K5.
pub mod Transfers
pub mod Opening
pub mod Lawful
pub mod Answering
pub mod Checking
pub mod OneGo
pub mod Kept
pub mod Unanswered
pub mod Openings
pub mod EndRequest
pub mod RepeatedFrame
pub mod LastLength
