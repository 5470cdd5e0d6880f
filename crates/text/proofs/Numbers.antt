-- Numbers of few digits. Assumes nothing.
use borrow.Author.Tests.{ltb-false}
use mathlib.Core.Path.{◌≡◌, refl, sym, ap, ap₂, ◌∙◌}
use mathlib.Core.List.{List, ◌∷◌}
use Prim.Native.Nat.{ℕ, suc, ◌+◌, ◌*◌, ◌^◌, ◌<◌, ◌≤◌}
use native.Mathlib.Nat.{pow-succ', pow-le-pow_right}
use native.Mathlib.Numerals.{add-one}
use native.Mathlib.Omega.{arith}
use lib.ListN.{length, drop, get_or}
use lib.Seq.{drop-cons}
use Rattle.std.proofs.Common.{ltb, Bool, true, false, cond, Option, Some, None}
use Rattle.text.specs.Numbers.{digit_of, digit_said, said_behind}

pub of-five : (n i : ℕ) → n < 10 ^ i → i ≤ 5 → n < 100000
of-five n i h five =
    let most : 10 ^ i ≤ 10 ^ 5 = pow-le-pow_right (omega arith) five in
    omega arith

pub one_more : (n i d : ℕ) → n < 10 ^ i → d ≤ 9 → 10 * n + d < 10 ^ (i + 1)
one_more n i d h small =
    let e : 10 ^ (i + 1) ≡ 10 * 10 ^ i = ap (λ (k : ℕ). 10 ^ k) (add-one i) ∙ pow-succ' 10 i in
    omega arith

-- ---- the bytes from the i-th on, behind digits that say n

without : (t : Bool) (x : ℕ) (r : Option ℕ) → cond t None (Some x) ≡ None → cond t None r ≡ None
without true x r e = refl
without false x r e = (cc)

with : (t : Bool) (x d : ℕ) (r : Option ℕ) → cond t None (Some x) ≡ Some d → (t ≡ false) × ((x ≡ d) × (cond t None r ≡ r))
with true x d r e = (cc)
with false x d r e = (refl, ((cc), refl))

module _ (s : List ℕ) (n i : ℕ) (h : i < length s) where
  pub no_digit : digit_said (get_or s i 0) ≡ None → said_behind n (drop i s) ≡ None
  no_digit e = ap (said_behind n) (drop-cons s i 0 h) ∙ without _ _ _ e

  pub one_more_digit : (d : ℕ) → digit_said (get_or s i 0) ≡ Some d
      → (d ≤ 9) × (said_behind n (drop i s) ≡ said_behind (10 * n + d) (drop (i + 1) s))
  one_more_digit d e =
      let b = get_or s i 0 in
      let w : (ltb 9 (digit_of b) ≡ false) × ((digit_of b ≡ d) × (said_behind n (b ∷ drop (suc i) s) ≡ said_behind (10 * n + digit_of b) (drop (suc i) s))) =
      with _ _ _ (said_behind (10 * n + digit_of b) (drop (suc i) s)) e in (
        omega (arith, ltb-false 9 (digit_of b) w.0),
        ap (said_behind n) (drop-cons s i 0 h) ∙ w.1.1 ∙ ap₂ (λ (x j : ℕ). said_behind (10 * n + x) (drop j s)) w.1.0 (sym (add-one i)),
      )
