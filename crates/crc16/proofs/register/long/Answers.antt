-- `crc16::register::long` meets its contract: the law of folding with the parameters' numbers. Assumes nothing.
use borrow.Author.Rules.{rules}
use mathlib.Core.Path.{◌≡◌, refl, sym, ap, ◌∙◌}
use Prim.Native.Nat.{ℕ, ◌+◌, ◌≤◌}
use native.Mathlib.Omega.{arith}
use lib.ListN.{length, take, replicate, length-replicate}
use Rattle.std.proofs.lemmas.List.{take-replicate}
use Rattle.slicing.specs.Directions.{direction_of}
use Rattle.slicing.proofs.UsedUp.{two_use_up}
use Rattle.crc16.specs.Foldable.{kind_for}
use Rattle.crc16.proofs.register.long.Goals as goal

-- a part of a buffer of zeros is one
lent : (n m : ℕ) → n ≤ m → take {A = ℕ} n (replicate m 0) ≡ replicate (length (take {A = ℕ} n (replicate m 0))) 0
lent n m h =
    let e = take-replicate {X = ℕ} n m 0 h in
    e ∙ ap (λ (i : ℕ). replicate {A = ℕ} i 0) (sym (ap length e ∙ length-replicate {A = ℕ} n 0))

pub returns : goal.returns
returns c =
    let p = c.args.p.now in
    let able = c.requires.1.1 in
    c.over.ensures (kind_for p) (refl, refl) c.requires.1.0 able.within able.multiple
    (two_use_up (direction_of p.fold.direction) c.args.register (search rules))
    (lent (p.fold.far + p.fold.far + 512) 672 (omega (arith, able.fits)))
