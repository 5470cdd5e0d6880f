-- What `==` and `>` say of arrays, in the words of the definitions. Assumes nothing.
use mathlib.Core.Path.{◌≡◌, refl, ap, ap₂, ◌∙◌}
use mathlib.Core.Bool.{Bool, true, false, cond, ◌&&◌}
use mathlib.Core.List.{List, [], ◌∷◌}
use mathlib.Core.Logic.{⊎_elim}
use Prim.Native.Nat.{ℕ, ◌<◌, ◌≤◌}
use native.Mathlib.Omega.{arith}
use borrow.Author.Tests.{lt-ltb, le-ltb, eq-eqb, ne_eqb}
use lib.Dec.{ltb, eqb}
use lib.ListN.{length, get_or}
use lib.Pointwise.{pointwise}
use Rattle.std.proofs.Common.{Option, Some}
use Rattle.std.specs.Ordering.{is_gt, is_some_and, nat_cmp, partial_ordering_then, partial_gt}
use Rattle.std.specs.Cmp.Lexicographic.{slice_partial_cmp}
use Rattle.sequences.proofs.Orders.{lt_or_le}
use Rattle.sequences.specs.Comparing.{same}
use Rattle.transfer.specs.declared.identity.Identity.{Identity}
use Rattle.agreement.specs.Versions.{newer}
use Rattle.agreement.specs.FB.{same_identity}
use Rattle.sequences.proofs.Sames.{equality_is_same}

-- the same tests in another order
in-order : (v n m r : Bool) → (v && (n && (m && r))) ≡ (n && (r && (v && m)))
in-order false false m r = refl
in-order false true m false = refl
in-order false true m true = refl
in-order true false m r = refl
in-order true true false false = refl
in-order true true false true = refl
in-order true true true false = refl
in-order true true true true = refl

-- the derived `==` tests the fields in the order of the struct
pub identities-same : (a b : Identity)
    → (eqb a.channel b.channel && (pointwise eqb a.version b.version && (eqb a.announced b.announced && (pointwise eqb a.md5 b.md5 && eqb a.crc b.crc))))
    ≡ same_identity a b
unfolding same_identity
identities-same a b =
    ap₂ (λ (v m : Bool). eqb a.channel b.channel && (v && (eqb a.announced b.announced && (m && eqb a.crc b.crc))))
    (equality_is_same a.version b.version) (equality_is_same a.md5 b.md5)
    ∙ ap (λ (x : Bool). eqb a.channel b.channel && x)
    (in-order (same a.version b.version) (eqb a.announced b.announced) (same a.md5 b.md5) (eqb a.crc b.crc))

-- ---- the order of versions

above : (x y : ℕ) (r : Option _) → is_some_and is_gt (partial_ordering_then (Some (nat_cmp x y)) r) ≡ cond (eqb x y) (is_some_and is_gt r) (ltb y x)
above x y r =
    ⊎_elim (λ (h : x < y). simp (lt-ltb x y h, ne_eqb x y (λ e. omega arith), le-ltb y x (omega arith)))
    (λ (h : y ≤ x).
    ⊎_elim (λ (g : y < x). simp (le-ltb x y h, ne_eqb x y (λ e. omega arith), lt-ltb y x g))
    (λ (g : x ≤ y). let e : x ≡ y = omega arith in simp (le-ltb x y h, eq-eqb x y e)) (lt_or_le y x)) (lt_or_le x y)

last-above : (x y : ℕ) → cond (eqb x y) false (ltb y x) ≡ ltb y x
last-above x y =
    ⊎_elim (λ (h : x < y). simp (ne_eqb x y (λ e. omega arith)))
    (λ (h : y ≤ x).
    ⊎_elim (λ (g : y < x). simp (ne_eqb x y (λ e. omega arith)))
    (λ (g : x ≤ y). let e : x ≡ y = omega arith in simp (eq-eqb x y e, le-ltb y x g)) (lt_or_le y x)) (lt_or_le x y)

three : (xs : List ℕ) → length xs ≡ 3 → xs ≡ (get_or xs 0 0 ∷ (get_or xs 1 0 ∷ (get_or xs 2 0 ∷ [])))
three [] e = absurd (omega arith)
three (x ∷ []) e = absurd (omega arith)
three (x ∷ (y ∷ [])) e = absurd (omega arith)
three (x ∷ (y ∷ (z ∷ []))) e = refl
three (x ∷ (y ∷ (z ∷ (w ∷ xs)))) e = absurd (omega arith)

above-three : (x y z u v w : ℕ)
    → partial_gt (slice_partial_cmp (λ (a b : ℕ). Some (nat_cmp a b))) (x ∷ (y ∷ (z ∷ []))) (u ∷ (v ∷ (w ∷ [])))
    ≡ cond (eqb x u) (cond (eqb y v) (ltb w z) (ltb v y)) (ltb u x)
above-three x y z u v w =
    above x u _
    ∙ ap (λ (b : Bool). cond (eqb x u) b (ltb u x))
    (above y v _ ∙ ap (λ (b : Bool). cond (eqb y v) b (ltb v y)) (above z w _ ∙ last-above z w))

pub newer-above : (a b : List ℕ) → length a ≡ 3 → length b ≡ 3
    → partial_gt (slice_partial_cmp (λ (x y : ℕ). Some (nat_cmp x y))) a b ≡ newer a b
unfolding newer
newer-above a b ea eb =
    ap₂ (partial_gt (slice_partial_cmp (λ (x y : ℕ). Some (nat_cmp x y)))) (three a ea) (three b eb)
    ∙ above-three (get_or a 0 0) (get_or a 1 0) (get_or a 2 0) (get_or b 0 0) (get_or b 1 0) (get_or b 2 0)
