-- `folding::gather` meets its contract. The loop's invariant: with the offsets from the next on, all are added. Assumes nothing.
use mathlib.Core.Path.{◌≡◌}
use lib.Bits.{bit_xor}
use lib.ListN.{drop}
use Rattle.crc.specs.Folding.{gathered}
use Rattle.folding.proofs.gather.Given as goal

abbrev pub invariant-loop-offset : goal.invariant-loop-offset
invariant-loop-offset l = bit_xor l.sum (gathered (drop l.offset-index l.offsets) l.b l.at) ≡ gathered l.offsets l.b l.at
