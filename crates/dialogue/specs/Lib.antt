-- The definitions that the contracts of `dialogue` cite.
pub mod Dialogues
pub mod Starts
pub mod Turns
pub mod Endings
