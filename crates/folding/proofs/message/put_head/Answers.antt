-- `folding::message::put_head` meets its contract. The loop's invariant: with the bytes from the i-th on, all are put down. Assumes nothing.
use borrow.Author.Rules.{rules}
use mathlib.Core.Path.{refl, ap, ◌∙◌}
use Prim.Native.Nat.{ℕ, ◌+◌, ◌-◌}
use native.Mathlib.Numerals.{unary_clauses}
use native.Mathlib.Omega.{arith}
use lib.ListN.{take}
use lib.Seq.{sets}
use Rattle.crc.specs.Folding.{met}
use Rattle.crc.proofs.Meeting.{met_next, met_all}
use Rattle.folding.proofs.message.put_head.Goals as goal

pub loop-i-init : goal.loop-i-init
loop-i-init g c = λ k goes. simp unary_clauses refl

pub loop-i-preserved : goal.loop-i-preserved
loop-i-preserved g c =
    λ k goes.
    let l = c.loop-i in
    met_next k _ _ goes c.args.s.now l.b _ _ _ l.i g.R.Register.BYTES _ _ _ (search rules) (search rules) c.front.ensures
    c.rest-left.ensures refl (l.invariant k goes)

pub returns : goal.returns
returns g c =
    λ k goes.
    let o = c.args in
    let l = c.loop-i in
    let d = o.f.now.far in
    let n = g.R.Register.BYTES in
    let head = met k (g.R.Register.number o.register) (take n o.s.now) in
    met_all k o.s.now l.b _ _ l.i n _ (omega (arith, c.BYTES-i-end.ensures)) (l.invariant k goes)
    ∙ ap (λ (m : ℕ). sets o.b.now (d + (d - m)) head) c.BYTES.ensures
