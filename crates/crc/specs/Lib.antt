-- The definitions that the contracts of `folding`, `slicing`, `crc16` and `crc32` cite.
pub mod Crc
pub mod Tables
pub mod Folding
pub mod Published
