-- `folding::message::folded` meets its contract: the law of folding. Assumes nothing.
use borrow.Author.Rules.{rules}
use mathlib.Core.Path.{◌≡◌, ap, subst, ◌∙◌}
use mathlib.Core.List.{List}
use Prim.Native.Nat.{ℕ, ◌+◌, ◌-◌}
use native.Mathlib.Omega.{arith}
use lib.ListN.{length, take, drop}
use lib.Seq.{sets}
use Rattle.crc.specs.Crc.{update}
use Rattle.crc.specs.Folding.{Carries, met, unswept}
use Rattle.crc.proofs.Bounds.{unsweeps}
use Rattle.crc.proofs.Folding.{folded, within_wider}
use Rattle.folding.proofs.message.folded.Goals as goal

pub returns : goal.returns
returns g c =
    λ k goes right within multiple none zeros.
    let o = c.args in
    let d = o.f.now.far in
    let offs = o.f.now.offsets in
    let n = g.T.Register.Register.BYTES in
    let b = c.all.new.b in
    let octet = g.met.T.Register.Register.has_a_byte in
    let some = g.met.T.Register.Register.meets_a_byte in
    let one = within_wider n d 1 d offs some (omega arith) within in
    let head = met k (g.T.Register.Register.number o.register) (take n o.s.now) in
    let long : length b ≡ length o.b.now = search rules in
    c.over.ensures k goes right
    ∙ ap (λ (x : ℕ). update k x c.unsweep.new.u) c.none.ensures
    ∙ folded k d offs one (omega (arith, octet, goes.0)) (length o.b.now) (d - n) n _ o.s.now _ b _ (omega arith) within (omega arith)
    c.requires.meets.1 none
    (c.put_head.ensures k goes ∙ ap (λ (l : List ℕ). sets l (d + (d - n)) head) zeros)
    (subst (λ (m : ℕ). Carries k d offs (take (length o.s.now - m) (drop m o.s.now)) c.put_head.new.b b) c.BYTES.ensures
    (c.all.ensures k one multiple))
    long
    (unsweeps offs b o.u.now _ d one (search rules) c.unsweep.ensures ∙ ap (λ (m : ℕ). unswept offs d m b) c.requires.fits.1)
