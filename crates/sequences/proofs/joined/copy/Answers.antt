-- `sequences::joined::copy` meets its contract: the first part, and behind it the second. Assumes nothing.
use mathlib.Core.Path.{sym, ap, ap₂, ◌∙◌}
use mathlib.Core.List.{List, ◌++◌}
use Prim.Native.Nat.{ℕ, ◌-◌}
use native.Mathlib.Omega.{arith}
use lib.ListN.{length, length-append}
use lib.Seq.{slice}
use Rattle.sequences.specs.Places.{written_at}
use Rattle.sequences.proofs.Places.{written_past, written_twice}
use Rattle.sequences.proofs.Slices.{slice-parts}
use Rattle.sequences.proofs.joined.copy.Goals as goal

-- what is asked: the first part, and the second
abbrev first : List ℕ → ℕ → ℕ → List ℕ
first a from to = slice from to a

abbrev second : List ℕ → List ℕ → ℕ → ℕ → List ℕ
second a b from to = slice (from - length a) (to - length a) b

pub returns-else-n-y : goal.returns-else-n-y
returns-else-n-y c =
    let a = c.args.a.now in
    let b = c.args.b.now in
    let f = first a c.args.from c.args.to in
    let s = second a b c.args.from c.args.to in
    let out = c.args.out.now in
    let x = ap length c.between-x.ensures in
    let y = ap length c.second-y.ensures in
    sym (ap (written_at out 0) (slice-parts c.args.from c.args.to a b) ∙ written_past out (f ++ s) 0
    (omega (arith, x, y, length-append f s)))

pub returns-then-n-y : goal.returns-then-n-y
returns-then-n-y c =
    let a = c.args.a.now in
    let b = c.args.b.now in
    let f = first a c.args.from c.args.to in
    let s = second a b c.args.from c.args.to in
    let out = c.args.out.now in
    let x = c.between-x.ensures in
    let y = c.second-y.ensures in
    let n = ap length x in
    c.write-then-n-y.ensures
    ∙ ap₂ (λ (l r : List ℕ). written_at l (length c.between-x.result.now) r)
    c.write.ensures y
    ∙ ap (λ (l : List ℕ). written_at (written_at out 0 l) (length l) s) x
    ∙ written_twice out f s (omega (arith, n, ap length y))
    ∙ ap (written_at out 0) (sym (slice-parts c.args.from c.args.to a b))
