-- The definitions that the contracts of `sender` cite, in the order of docs/SENDER.md.
pub mod Phases
pub mod Senders
pub mod Rules
pub mod Opening
pub mod Decisions
pub mod Requests
pub mod Replies
pub mod Silences
pub mod RequestRead
pub mod Kept
pub mod Deciding
pub mod Resuming
pub mod Exchanges
pub mod Granted
pub mod AllSilent
