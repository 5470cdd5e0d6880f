-- The offsets are those of a multiple of CRC-32's polynomial, by computation. Assumes nothing.
use mathlib.Core.Path.{refl}
use lib.Dec.{lit≤}
use Rattle.crc.specs.Crc.{bit, bits, byte_step, crc32}
use Rattle.crc.specs.Folding.{Within, all_within, Multiple}
use Rattle.crc.specs.Tables.{zero_bytes}
use Rattle.crc.proofs.Bounds.{means-within}
use Rattle.crc.proofs.Multiples.{multiple-test, multiple}
use Rattle.crc32.specs.Offsets.{offsets, far}

pub within_four : Within 4 far offsets
unfolding all_within
within_four = means-within 4 far offsets refl

pub offsets-multiple : Multiple crc32 far offsets
unfolding multiple-test zero_bytes byte_step bits bit crc32
offsets-multiple = multiple crc32 far offsets (lit≤ tt) tt
