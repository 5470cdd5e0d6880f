-- `exchange::image_file::read_full` is safe and ends. Assumes nothing.
use Prim.Native.Nat.{◌-◌, ◌≤◌}
use lib.ListN.{length}
use Rattle.exchange.proofs.image_file.read_full.Given as goal

abbrev pub invariant-loop-done : goal.invariant-loop-done
invariant-loop-done l = l.done ≤ length l.image

abbrev pub decreases-loop-done : goal.decreases-loop-done
decreases-loop-done l = length l.initial.image - l.done
