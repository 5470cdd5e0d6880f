-- The definitions that the contracts of `text` cite.
pub mod Ascii
pub mod Hex
pub mod Decimals
pub mod Numbers
pub mod Outputs
pub mod Examples
