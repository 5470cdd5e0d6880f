-- `folding::unsweep_within` meets its contract. The loop's invariant: the first i bytes are those that were swept. Assumes nothing.
use mathlib.Core.Path.{◌≡◌}
use lib.ListN.{length, take}
use Rattle.crc.specs.Folding.{unswept}
use Rattle.folding.proofs.unsweep_within.Given as goal

abbrev pub invariant-loop-i : goal.invariant-loop-i
invariant-loop-i l = record {
  long : length l.u ≡ length l.initial.u;
  done : take l.i l.u ≡ unswept l.offsets l.at l.i l.b;
}
