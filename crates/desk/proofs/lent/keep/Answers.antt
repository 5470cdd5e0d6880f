-- `desk::lent::keep` meets its contract. Assumes nothing.
use mathlib.Core.Path.{◌≡◌, sym, ap, ◌∙◌}
use Prim.Native.Nat.{ℕ}
use native.Mathlib.Omega.{arith}
use lib.ListN.{length, take}
use lib.Seq.{length-take-le}
use Rattle.sequences.specs.Places.{written_at}
use Rattle.sequences.proofs.Places.{written-there}
use Rattle.desk.proofs.lent.keep.Goals as goal

pub returns : goal.returns
returns c =
    let a = c.args in
    let p = take a.n a.memory.now in
    let long : length p ≡ a.n = length-take-le a.n a.memory.now (omega arith) in
    ap (take a.n) (c.write.ensures ∙ ap (written_at a.kept.now 0) c.front.ensures)
    ∙ ap (λ (k : ℕ). take k (written_at a.kept.now 0 p)) (sym long)
    ∙ written-there a.kept.now p 0 (omega arith)
