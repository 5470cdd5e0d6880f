-- The definitions that the contracts of `transfer` cite: 01, "The record and the board list".
pub mod Phases
pub mod Identities
pub mod Transfers
