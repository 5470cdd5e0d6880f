-- `crc16::modbus` meets its contract: its tables and its offsets are tested by computation. Assumes nothing.
use mathlib.Core.Path.{refl}
use Rattle.crc.specs.Crc.{bit, bits, byte_step, crc16_modbus}
use Rattle.crc.specs.Folding.{all_within}
use Rattle.crc.specs.Tables.{zero_bytes}
use Rattle.crc.proofs.Multiples.{multiple-test}
use Rattle.crc.proofs.Tables.{first_entry, later-entry, tabled}
use Rattle.crc16.proofs.Foldable.{foldable}
use Rattle.crc16.proofs.modbus.Goals as goal

pub over-requires : goal.over-requires
unfolding crc16_modbus first_entry later-entry all_within multiple-test zero_bytes byte_step bits bit
over-requires c = (tabled crc16_modbus 8 _ refl tt, foldable _ tt tt refl tt)

pub returns : goal.returns
unfolding crc16_modbus
returns c = c.over.ensures
