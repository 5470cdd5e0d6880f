-- `phrases::pairs::pairs_in` meets its contract. The loop's invariant: what stands before the place is pairs, so many, and no space stands
-- there. Assumes nothing.
use mathlib.Core.Path.{◌≡◌}
use Prim.Native.Nat.{◌+◌, ◌-◌, ◌≤◌}
use lib.ListN.{length, drop}
use Rattle.phrases.specs.Spaces.{spaces}
use Rattle.phrases.specs.Pairs.{are_pairs, bytes_in}
use Rattle.phrases.proofs.pairs.pairs_in.Given as goal

abbrev pub invariant-loop-at : goal.invariant-loop-at
invariant-loop-at l =
    (l.at ≤ length l.s) × ((l.count ≤ l.at) × ((spaces (drop l.at l.s) ≡ 0)
    × ((are_pairs l.s ≡ are_pairs (drop l.at l.s)) × (length (bytes_in l.s) ≡ l.count + length (bytes_in (drop l.at l.s))))))

abbrev pub decreases-loop-at : goal.decreases-loop-at
decreases-loop-at l = length l.s - l.at
