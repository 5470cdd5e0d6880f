-- What belongs to no one function.
mod Blocks
pub mod UsedUp
