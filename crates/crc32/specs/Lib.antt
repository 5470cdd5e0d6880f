-- What the private functions of `crc32` cite; its public contracts cite `crc` alone.
pub mod Offsets
