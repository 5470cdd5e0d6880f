-- The definitions that the contracts of `commands` cite: 01, "The six commands", and the numbers that both ends share.
pub mod Limits
pub mod Outcomes
pub mod States
pub mod Table
