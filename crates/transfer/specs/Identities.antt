-- 01, "The record and the board list": "the image's identity: channel, version, announced length, MD5, CRC-32". Assumes nothing.
use Rattle.sequences.specs.Padding.{zeros}
use Rattle.transfer.specs.declared.identity.Identity.{Identity}

-- "identity all zero"
abbrev pub no_identity : Identity
no_identity = record { channel = 0; version = zeros 3; announced = 0; md5 = zeros 16; crc = 0 }
