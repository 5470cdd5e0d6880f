-- What the private functions of `crc16` cite; its public contracts cite `crc` alone.
pub mod Foldable
