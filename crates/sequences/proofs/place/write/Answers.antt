-- `sequences::place::write` meets its contract. Assumes nothing.
use mathlib.Core.Path.{◌≡◌, refl, sym}
use Prim.Native.Nat.{◌+◌, ◌<◌}
use lib.ListN.{length, length-drop}
use native.Mathlib.Omega.{arith}
use Rattle.sequences.proofs.Places.{written_past, part_written}
use Rattle.sequences.proofs.place.write.Goals as goal
use Rattle.sequences.proofs.place.write.Goals.{else-bytes-all-via-then-bytes-all+else-at-all, else-bytes-all-via-else-bytes-all}

pub returns-then-at-all : goal.returns-then-at-all
returns-then-at-all c =
    let a = c.args in
    let all_copied : c.copy.result ≡ length a.bytes.now = omega (arith, c.copy.ensures.count, length-drop a.at a.all.now) in
    part_written a.all.now a.bytes.now _ a.at _ refl (omega arith) (rw all_copied at c.copy.ensures.copied)

pub returns-else-bytes-all : goal.returns-else-bytes-all
returns-else-bytes-all c =
    let a = c.args in
    let past : length a.all.now < a.at + length a.bytes.now =
    elim c.else-bytes-all.branch [ else-bytes-all-via-then-bytes-all+else-at-all w ↦ omega arith | else-bytes-all-via-else-bytes-all w ↦ omega arith ] in
    sym (written_past a.all.now a.bytes.now a.at past)
