-- What the contracts of `slicing` cite beside the definitions of `crc`.
pub mod Directions
pub mod Kinds
