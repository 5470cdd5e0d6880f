-- `folding::sweep_within` meets its contract. The loop's invariant: with the first i bytes swept, the others are still to be.
-- Assumes nothing.
use mathlib.Core.Path.{◌≡◌}
use Prim.Native.Nat.{◌+◌}
use lib.ListN.{length, drop}
use Rattle.crc.specs.Folding.{swept}
use Rattle.folding.proofs.sweep_within.Given as goal

abbrev pub invariant-loop-i : goal.invariant-loop-i
invariant-loop-i l = record {
  long : length l.b ≡ length l.initial.b;
  left : swept l.offsets l.at l.s l.initial.b ≡ swept l.offsets (l.at + l.i) (drop l.i l.s) l.b;
}
