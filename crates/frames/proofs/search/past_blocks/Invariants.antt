-- `frames::search::past_blocks` meets its contract. The loop's invariant: no head stands in the blocks passed so far. Assumes nothing.
use Prim.Native.Nat.{◌-◌}
use Rattle.frames.specs.Scans.{Headless}
use Rattle.frames.proofs.search.past_blocks.Given as goal

abbrev pub invariant-loop-i : goal.invariant-loop-i
invariant-loop-i l = Headless l.s l.from l.to l.i

abbrev pub decreases-loop-i : goal.decreases-loop-i
decreases-loop-i l = l.to - l.i
