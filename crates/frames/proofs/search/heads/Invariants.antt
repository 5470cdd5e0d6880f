-- `frames::search::heads` meets its contract. The loop's invariant: while none is counted, no place passed so far has a head. Assumes
-- nothing.
use mathlib.Core.Path.{◌≡◌}
use Prim.Native.Nat.{◌+◌, ◌≤◌}
use Rattle.frames.specs.Scans.{Headless, block_size}
use Rattle.frames.proofs.search.heads.Given as goal

abbrev pub invariant-loop-i : goal.invariant-loop-i
invariant-loop-i l =
    (l.from + l.count ≤ l.i) × (l.count ≡ 0 → Headless l.s l.from (l.from + block_size + 1) l.i)
