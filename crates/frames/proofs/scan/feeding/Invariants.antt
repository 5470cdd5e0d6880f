-- `frames::scan::feeding` meets its contract. The loop's invariant: the call goes on from where the scan stands. Assumes nothing.
use mathlib.Core.Path.{◌≡◌}
use mathlib.Core.List.{◌++◌}
use Prim.Native.Nat.{◌+◌, ◌-◌, ◌*◌, ◌≤◌}
use lib.ListN.{length}
use Rattle.fronts.specs.Frame.{max_frame}
use Rattle.frames.specs.LiveReading.{feeding_call}
use Rattle.frames.proofs.Positions.{feeding_at}
use Rattle.frames.proofs.scan.feeding.Given as goal

abbrev pub invariant-loop-from : goal.invariant-loop-from
invariant-loop-from l =
    (l.from ≤ l.to) × ((l.to ≤ length l.a + length l.b) ×
    ((length l.a ≤ l.to) × ((l.to ≤ l.from + max_frame) × (feeding_call l.b l.a 0 0 ≡ feeding_at (l.a ++ l.b) (length l.a) l.from l.to))))

abbrev pub decreases-loop-from : goal.decreases-loop-from
decreases-loop-from l = 2 * (length l.a + length l.b) - (l.from + l.to)
