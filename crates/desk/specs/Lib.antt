-- The definitions that the contracts of `desk` cite.
pub mod Desks
pub mod Lent
pub mod Telling
pub mod Effects
pub mod Obeying
pub mod Runs
