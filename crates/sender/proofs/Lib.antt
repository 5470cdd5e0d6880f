-- The laws that belong to no one function, by subject.
mod Phases
pub mod RulesKept
mod Packets
mod Refusals
mod Requests
pub mod RequestReads
mod Hearings
pub mod Decidings
pub mod Resumptions
pub mod Kept
pub mod Endings
pub mod Claims
mod Grants
mod Pieces
mod Exchanges
pub mod GrantedExchanges
pub mod SilentExchanges
pub mod Openings
