-- Byte strings that are the same. Assumes nothing.
use mathlib.Core.Path.{◌≡◌, refl, sym, ap, ap₂, ◌∙◌}
use mathlib.Core.Bool.{Bool, true, ◌&&◌, and-eq-true_iff}
use mathlib.Core.List.{List, [], ◌∷◌}
use Prim.Native.Nat.{ℕ}
use native.Mathlib.Omega.{arith}
use Rattle.std.proofs.Common.{nat_eq}
use Rattle.std.specs.Cmp.Lexicographic.{pointwise}
use borrow.Author.Tests.{eqb-true, eq-eqb}
use lib.Dec.{eqb}
use Rattle.sequences.specs.Comparing.{same, SameIsEqual}

pub same_self : (s : List ℕ) → same s s ≡ true
unfolding same
same_self [] = refl
same_self (a ∷ s) = ap₂ ◌&&◌ (eq-eqb a a refl) (same_self s)

pub same_equal : (s t : List ℕ) → same s t ≡ true → s ≡ t
unfolding same
same_equal [] [] e = refl
same_equal [] (b ∷ t) e = let z : ◌≡◌ {A = ℕ} 0 1 = cc in absurd (omega arith)
same_equal (a ∷ s) [] e = let z : ◌≡◌ {A = ℕ} 0 1 = cc in absurd (omega arith)
same_equal (a ∷ s) (b ∷ t) e =
    let p = (and-eq-true_iff (eqb a b) (same s t)).0 e in
    ap₂ ◌∷◌ (eqb-true a b p.0) (same_equal s t p.1)

pub same_is_equal : SameIsEqual
same_is_equal s t = (same_equal s t, λ e. ap (same s) (sym e) ∙ same_self s)

-- what `==` says of two slices or arrays of numbers
pub equality_is_same : (s t : List ℕ) → pointwise nat_eq s t ≡ same s t
unfolding same
equality_is_same [] [] = refl
equality_is_same [] (b ∷ t) = refl
equality_is_same (a ∷ s) [] = refl
equality_is_same (a ∷ s) (b ∷ t) = ap (λ (x : Bool). eqb a b && x) (equality_is_same s t)
