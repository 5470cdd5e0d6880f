-- A search as a loop makes it: what is found from place i on. Assumes nothing.
use mathlib.Core.Path.{◌≡◌, refl, sym, ap, ◌∙◌}
use mathlib.Core.Bool.{Bool, true, false, cond}
use mathlib.Core.Logic.{⊎_elim}
use Prim.Native.Nat.{ℕ, zero, suc, ◌+◌, ◌-◌, ◌<◌, ◌≤◌}
use native.Mathlib.Omega.{arith}
use borrow.Author.Tests.{lt-ltb, le-ltb}
use lib.Dec.{ltb}
use Rattle.sequences.specs.Search.{find}
use Rattle.sequences.proofs.Orders.{lt_or_le}

pub find-start : (p : ℕ → Bool) (n : ℕ) → find p (n - 0) 0 ≡ find p n 0
find-start p n =
    let k : n - 0 ≡ n = omega arith in
    rw k

pub find_hit : (p : ℕ → Bool) (n i : ℕ) → i < n → p i ≡ true → find p (n - i) i ≡ i
unfolding find
find_hit p n i h e =
    let k : n - i ≡ suc (n - (i + 1)) = omega arith in
    rw (k, e)

pub find_miss : (p : ℕ → Bool) (n i : ℕ) → i < n → p i ≡ false → find p (n - (i + 1)) (i + 1) ≡ find p (n - i) i
unfolding find
find_miss p n i h e =
    let k : n - i ≡ suc (n - (i + 1)) = omega arith in
    rw (k, e)

pub find_end : (p : ℕ → Bool) (n i : ℕ) → n ≤ i → find p (n - i) i ≡ i
unfolding find
find_end p n i h =
    let k : n - i ≡ 0 = omega arith in
    rw k

-- some place passes the test, or none does, as the search found
pub find-yes : (p : ℕ → Bool) (n i : ℕ) → find p (n - i) i ≡ find p n 0 → i < n → p i ≡ true → ltb (find p n 0) n ≡ true
find-yes p n i inv h e = lt-ltb (find p n 0) n (rw (sym inv ∙ find_hit p n i h e) h)

pub find-no : (p : ℕ → Bool) (n i : ℕ) → find p (n - i) i ≡ find p n 0 → n ≤ i → ltb (find p n 0) n ≡ false
find-no p n i inv g = le-ltb (find p n 0) n (rw (sym inv ∙ find_end p n i g) g)

-- ---- nothing is found exactly where each place fails the test

module _ (p : ℕ → Bool) where
  pub found_none : (n i : ℕ) → i + n ≤ find p n i → (k : ℕ) → i ≤ k → k < i + n → p k ≡ false
  unfolding find
  found_none zero i f k l h = absurd (omega arith)
  found_none (suc n) i f k l h = go (p i) refl (λ miss above. found_none n (i + 1) miss k above (omega arith))
    where
      go : (b : Bool) → p i ≡ b → (i + 1 + n ≤ find p n (i + 1) → i + 1 ≤ k → p k ≡ false) → p k ≡ false
      go true e on =
          let hit : find p (suc n) i ≡ i = ap (λ (b : Bool). cond b i (find p n (i + 1))) e in
          absurd (omega arith)
      go false e on =
          let miss : find p (suc n) i ≡ find p n (i + 1) = ap (λ (b : Bool). cond b i (find p n (i + 1))) e in
          ⊎_elim (λ above. on (omega arith) (omega arith))
          (λ at. let same : k ≡ i = omega arith in ap p same ∙ e) (lt_or_le i k)

  pub none_found : (n i : ℕ) → ((k : ℕ) → i ≤ k → k < i + n → p k ≡ false) → find p n i ≡ i + n
  unfolding find
  none_found zero i f = omega arith
  none_found (suc n) i f =
      ap (λ (b : Bool). cond b i (find p n (i + 1))) (f i (omega arith) (omega arith))
      ∙ none_found n (i + 1) (λ k l h. f k (omega arith) (omega arith))
      ∙ omega arith

  -- what is found passes the test
  pub found-passes : (n i : ℕ) → find p n i < i + n → p (find p n i) ≡ true
  unfolding find
  found-passes zero i f = absurd (omega arith)
  found-passes (suc n) i f = go (p i) refl (λ inside. found-passes n (i + 1) inside)
    where
      go : (b : Bool) → p i ≡ b → (find p n (i + 1) < i + 1 + n → p (find p n (i + 1)) ≡ true) → p (find p (suc n) i) ≡ true
      go true e on = ap (λ (b : Bool). p (cond b i (find p n (i + 1)))) e ∙ e
      go false e on =
          let miss : find p (suc n) i ≡ find p n (i + 1) = ap (λ (b : Bool). cond b i (find p n (i + 1))) e in
          ap p miss ∙ on (omega arith)
