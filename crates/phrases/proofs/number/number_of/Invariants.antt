-- `phrases::number::number_of` meets its contract. The loop's invariant: the digits so far say a value that is not above the most.
-- Assumes nothing.
use mathlib.Core.Path.{◌≡◌}
use Prim.Native.Nat.{◌≤◌}
use lib.ListN.{drop}
use Rattle.phrases.specs.Numbers.{value_behind}
use Rattle.phrases.proofs.number.number_of.Given as goal

abbrev pub invariant-loop-b : goal.invariant-loop-b
invariant-loop-b l =
    (l.value ≤ l.most) × (value_behind 0 l.digits ≡ value_behind l.value (drop l.b-index l.digits))
