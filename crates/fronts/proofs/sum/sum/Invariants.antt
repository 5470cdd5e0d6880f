-- `fronts::sum::sum` meets its contract. The loop's invariant: total is the sum byte of the bytes so far. Assumes nothing.
use Rattle.std.proofs.Common.{◌≡◌, take}
use Rattle.fronts.specs.Frame.{sum_byte}
use Rattle.fronts.proofs.sum.sum.Given as goal

abbrev pub invariant-loop-byte : goal.invariant-loop-byte
invariant-loop-byte l = l.total ≡ sum_byte (take l.byte-index l.s)
