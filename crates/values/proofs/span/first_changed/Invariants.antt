-- `values::span::first_changed` meets its contract. The loop's invariant: the search from place i on finds what the whole search finds.
-- Assumes nothing.
use mathlib.Core.Path.{◌≡◌}
use Prim.Native.Nat.{◌+◌, ◌-◌, ◌≤◌}
use Rattle.sequences.specs.Search.{find}
use Rattle.values.specs.Spans.{changed_at, first_changed}
use Rattle.values.proofs.span.first_changed.Given as goal

abbrev pub invariant-loop-i : goal.invariant-loop-i
invariant-loop-i l = record {
  within : l.i ≤ l.end + (l.from - l.end);
  found : find (changed_at l.before l.after) (l.end - l.i) l.i ≡ first_changed l.before l.after l.from l.end;
}
