-- `phrases::pairs::decode` meets its contract. The loop's invariant: the first i bytes are written, and the pairs of the others stand from
-- the place on. Assumes nothing.
use mathlib.Core.Path.{refl, sym, ap, ap₂, subst, ◌∙◌}
use mathlib.Core.List.{List}
use Prim.Native.Nat.{ℕ, ◌+◌, ◌≤◌, ◌<◌}
use native.Mathlib.Omega.{arith}
use lib.ListN.{length, set}
use Rattle.phrases.specs.Pairs.{bytes_in}
use Rattle.phrases.proofs.Hexes.{ToCome, all_to_come, pair_here, fits-here, byte-here, next_to_come}
use Rattle.phrases.proofs.Hexes.{length-written, written_next, written_all}
use Rattle.phrases.proofs.pairs.decode.Goals as goal

pub loop-i-init : goal.loop-i-init
loop-i-init c =
    let s = c.args.s.now in
    (subst (λ (at : ℕ). ToCome s at 0) (sym c.spaces-at.ensures) (all_to_come s c.requires.0), (refl, refl))

pub byte_at-requires : goal.byte_at-requires
byte_at-requires c =
    let l = c.loop-i in
    pair_here c.args.s.now l.at l.i l.invariant.0 (omega (arith, c.requires.1.0))

pub overflow_add-at : goal.overflow_add-at
overflow_add-at c =
    let l = c.loop-i in
    omega (arith, fits-here c.args.s.now l.at l.i l.invariant.0 (omega (arith, c.requires.1.0)))

pub loop-i-preserved : goal.loop-i-preserved
loop-i-preserved c =
    let l = c.loop-i in
    let s = c.args.s.now in
    let all = c.args.bytes.now in
    let more : l.i < length (bytes_in s) = omega (arith, c.requires.1.0) in
    let fits : length (bytes_in s) ≤ length all = omega (arith, c.requires.1.0) in
    let rest = next_to_come s l.at l.i l.invariant.0 more in
    let byte = c.byte_at.ensures ∙ byte-here s l.at l.i l.invariant.0 more in
    let put = ap₂ (λ (b : List ℕ) (x : ℕ). set b l.i x) l.invariant.1.1 byte ∙ written_next all (bytes_in s) l.i more fits in
    let size = ap length put ∙ length-written all (bytes_in s) (l.i + 1) (omega arith) fits in
    (subst (λ (at : ℕ). ToCome s at (l.i + 1)) (sym c.spaces_end-at.ensures) rest, (size, put))

pub returns : goal.returns
returns c =
    let l = c.loop-i in
    let p = bytes_in c.args.s.now in
    l.invariant.1.1 ∙ written_all c.args.bytes.now p l.i (omega (arith, c.requires.1.0)) (omega (arith, c.requires.1.0))
