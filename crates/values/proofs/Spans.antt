-- The first and the last changed place, as loops look for them, and SPAN from them. Assumes nothing.
use borrow.Author.Tests.{lt-ltb, le-ltb}
use mathlib.Core.Path.{◌≡◌, ap, ap₂, ◌∙◌}
use mathlib.Core.Bool.{Bool, true, false}
use mathlib.Core.List.{List, [], ◌∷◌}
use Prim.Native.Nat.{ℕ, zero, suc, ◌-◌, ◌≤◌, ◌<◌}
use native.Mathlib.Omega.{arith}
use lib.Seq.{slice}
use Rattle.text.specs.Ascii.{ascii}
use Rattle.text.specs.Decimals.{decimal}
use Rattle.values.specs.Bytes.{digit_texts}
use Rattle.values.specs.Spans.{shared_end, changed_at, first_changed, behind_last, span_texts}

pub behind_hit : (p : ℕ → Bool) (n : ℕ) → 0 < n → p (n - 1) ≡ true → behind_last p n ≡ n
unfolding behind_last
behind_hit p zero h e = absurd (omega arith)
behind_hit p (suc n) h e =
    let k : suc n - 1 ≡ n = omega arith in
    rw (rw k at e)

pub behind_miss : (p : ℕ → Bool) (n : ℕ) → 0 < n → p (n - 1) ≡ false → behind_last p n ≡ behind_last p (n - 1)
unfolding behind_last
behind_miss p zero h e = absurd (omega arith)
behind_miss p (suc n) h e =
    let k : suc n - 1 ≡ n = omega arith in
    rw (k, rw k at e)

pub behind-none : (p : ℕ → Bool) (n : ℕ) → n ≡ 0 → behind_last p n ≡ 0
unfolding behind_last
behind-none p n e = rw e

-- ---- SPAN from what the two searches found

module _ (before after : List ℕ) (from : ℕ) {end first : ℕ} (shared : end ≡ shared_end before after)
    (found : first ≡ first_changed before after from end) where
  first_found : first ≡ first_changed before after from (shared_end before after)
  first_found = found ∙ ap (first_changed before after from) shared

  pub span-some : {to : ℕ} → to ≡ behind_last (changed_at before after) end → first < end
      → decimal first ∷ ascii ":" ∷ digit_texts (slice first to after) ≡ span_texts before after from
  span-some last h =
      let F = first_changed before after from (shared_end before after) in
      let found_before : F < shared_end before after = omega (arith, first_found) in
      ap₂ (λ (x y : ℕ). decimal x ∷ ascii ":" ∷ digit_texts (slice x y after)) first_found
      (last ∙ ap (behind_last (changed_at before after)) shared)
      ∙ simp (lt-ltb F (shared_end before after) found_before)

  pub span_none : end ≤ first → ascii "-" ∷ [] ≡ span_texts before after from
  span_none h =
      let F = first_changed before after from (shared_end before after) in
      let past : shared_end before after ≤ F = omega (arith, first_found) in
      simp (le-ltb F (shared_end before after) past)
