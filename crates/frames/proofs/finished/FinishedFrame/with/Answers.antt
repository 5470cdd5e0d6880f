-- `frames::finished::FinishedFrame::with` meets its contract. Assumes nothing.
use Prim.Native.Nat.{◌+◌}
use native.Mathlib.Omega.{arith}
use borrow.Author.Tests.{le-leb, lt-leb}
use lib.ListN.{length}
use Rattle.fronts.specs.Frame.{max_data}
use Rattle.frames.specs.Finished.{extended}
use Rattle.frames.proofs.finished.FinishedFrame.with.Goals as goal

pub returns-then-n-gt-MAX_DATA : goal.returns-then-n-gt-MAX_DATA
unfolding extended
returns-then-n-gt-MAX_DATA c =
    let a = c.args in
    simp (lt-leb (a.self.length + length a.part.now) max_data (omega arith))

pub returns-then-n-at : goal.returns-then-n-at
unfolding extended
returns-then-n-at c =
    let a = c.args in
    simp (lt-leb (a.self.length + length a.part.now) max_data (omega arith))

pub returns : goal.returns
unfolding extended
returns c =
    let a = c.args in
    simp (le-leb (a.self.length + length a.part.now) max_data (omega arith), c.write.ensures)
