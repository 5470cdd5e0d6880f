-- `image::progress::Progress::store` meets its contract. Assumes nothing.
use borrow.Author.Tests.{le-leb, lt-leb}
use mathlib.Core.Path.{sym}
use Prim.Native.Nat.{◌+◌, ◌<◌}
use lib.ListN.{length}
use native.Mathlib.Omega.{arith}
use Rattle.sequences.proofs.Places.{written_past}
use Rattle.image.specs.Progresses.{storing}
use Rattle.image.proofs.progress.Progress.store.Goals as goal
use Rattle.image.proofs.progress.Progress.store.Goals.{else-n-area-via-then-n-area+else-at-area, else-n-area-via-else-n-area}

pub returns-then-at-area : goal.returns-then-at-area
unfolding storing
returns-then-at-area c =
    let a = c.args in
    (simp (le-leb (a.self.stored + length a.bytes.now) (length a.area.now) (omega arith)), c.write.ensures)

pub returns-else-n-area : goal.returns-else-n-area
unfolding storing
returns-else-n-area c =
    let a = c.args in
    let past : length a.area.now < a.self.stored + length a.bytes.now =
    elim c.else-n-area.branch [ else-n-area-via-then-n-area+else-at-area w ↦ omega arith | else-n-area-via-else-n-area w ↦ omega arith ] in (
      simp (lt-leb (a.self.stored + length a.bytes.now) (length a.area.now) past),
      sym (written_past a.area.now a.bytes.now a.self.stored past),
    )
