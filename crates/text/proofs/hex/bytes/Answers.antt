-- `text::hex::bytes` meets its contract. Assumes nothing.
use borrow.Author.Tests.{le-leb}
use mathlib.Core.Path.{◌≡◌, ap₂, ◌∙◌}
use mathlib.Core.List.{List}
use Prim.Native.Nat.{ℕ, ◌+◌, ◌*◌, ◌≤◌}
use native.Mathlib.Omega.{arith}
use lib.ListN.{length, set, get_or}
use Rattle.text.proofs.Hexes.{written_next, written_all}
use Rattle.text.proofs.hex.bytes.Goals as goal

pub loop-i-preserved : goal.loop-i-preserved
loop-i-preserved c =
    let l = c.loop-i in
    ap₂ (λ (d : List ℕ) (r : List ℕ). set (set r (2 * l.i) (get_or d 0 0)) (2 * l.i + 1) (get_or d 1 0)) c.byte.ensures l.invariant
    ∙ written_next c.args.s.now c.args.room.now l.i c.loop-i-test.true (omega arith)

pub returns : goal.returns
returns c =
    let l = c.loop-i in
    let a = c.args in
    let fits : 2 * length a.s.now ≤ length a.room.now = omega arith in
    let all : l.i ≡ length a.s.now = omega arith in
    record { value = simp (le-leb _ _ fits); room_after = simp (le-leb _ _ fits) (l.invariant ∙ written_all a.s.now a.room.now l.i all) }
