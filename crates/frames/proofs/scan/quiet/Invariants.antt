-- `frames::scan::quiet` meets its contract. The loop's invariant: the call goes on at where the scan stands. Assumes nothing.
use mathlib.Core.Path.{◌≡◌}
use Prim.Native.Nat.{◌-◌, ◌≤◌}
use lib.ListN.{length, drop}
use Rattle.frames.specs.LiveReading.{quiet_call}
use Rattle.frames.proofs.scan.quiet.Given as goal

abbrev pub invariant-loop-at : goal.invariant-loop-at
invariant-loop-at l = (l.at ≤ l.n) × ((l.n ≡ length l.a) × (quiet_call l.a 0 ≡ quiet_call (drop l.at l.a) l.at))

abbrev pub decreases-loop-at : goal.decreases-loop-at
decreases-loop-at l = l.n - l.at
