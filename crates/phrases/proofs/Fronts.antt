-- How many bytes at the front pass a test. Assumes nothing.
use borrow.Author.Tests.{ltb-false}
use mathlib.Core.Path.{◌≡◌, refl}
use mathlib.Core.Bool.{Bool, true, false, not, cond}
use mathlib.Core.List.{List, [], ◌∷◌}
use Prim.Native.Nat.{ℕ, suc, ◌+◌, ◌≤◌}
use native.Mathlib.Omega.{arith}
use lib.Dec.{ltb}
use lib.ListN.{length}
use Rattle.std.specs.Prelude.{Option, Some, None}
use Rattle.std.specs.Option.{unwrap_or}
use Rattle.std.specs.List.{position, position_or_len}
use Rattle.std.proofs.lemmas.List.Recursion.{is_position_or_len}
use Rattle.sequences.proofs.Conditionals.{of_each}
use Rattle.phrases.specs.Spaces.{front_count}

pub count-short : (p : ℕ → Bool) (s : List ℕ) → front_count p s ≤ length s
unfolding front_count
count-short p [] = omega arith
count-short p (b ∷ s) = go (p b) (count-short p s)
  where
    go : (x : Bool) → front_count p s ≤ length s → cond x (suc (front_count p s)) 0 ≤ suc (length s)
    go true h = omega arith
    go false h = omega arith

-- ---- as std finds the first that fails it

count-or-other : (x : Bool) (k : ℕ) → cond x (suc k) 0 ≡ cond (not x) 0 (1 + k)
count-or-other true k = omega arith
count-or-other false k = refl

module _ (p : ℕ → Bool) (s : List ℕ) where
  front-place : front_count p s ≡ position_or_len (λ (b : ℕ). not (p b)) s
  unfolding front_count
  front-place =
      is_position_or_len (front_count p) (λ (b : ℕ). not (p b)) refl (λ x t. count-or-other (p x) (front_count p t)) s

  pub front-found : front_count p s ≡ unwrap_or (position (λ (b : ℕ). not (p b)) s) (length s)
  front-found =
      let place = position_or_len (λ (b : ℕ). not (p b)) s in
      of_each (λ (o : Option ℕ). front_count p s ≡ unwrap_or o (length s)) (ltb place (length s)) (Some place) None
      (λ _. front-place)
      (λ e. omega (arith, front-place, ltb-false place (length s) e, count-short p s))
