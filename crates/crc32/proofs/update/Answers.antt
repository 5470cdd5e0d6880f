-- `crc32::update` meets its contract: all sixteen tables are tested by computation. Assumes nothing.
use mathlib.Core.Path.{refl}
use Rattle.crc.specs.Crc.{bit, bits, byte_step, crc32}
use Rattle.crc.proofs.Tables.{first_entry, later-entry, tabled}
use Rattle.crc32.proofs.update.Goals as goal

pub over-requires : goal.over-requires
unfolding first_entry later-entry byte_step bits bit crc32
over-requires c = tabled crc32 16 _ refl tt

pub returns : goal.returns
returns c = c.over.ensures
