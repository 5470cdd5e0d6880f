-- `frames::search::first_head` meets its contract. The loop's invariant: no head stands at the places passed so far. Assumes nothing.
use Rattle.frames.specs.Scans.{Headless}
use Rattle.frames.proofs.search.first_head.Given as goal

abbrev pub invariant-loop-i : goal.invariant-loop-i
invariant-loop-i l = Headless l.s l.from l.to l.i
