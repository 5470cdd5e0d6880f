-- The sum byte, one byte more at a time and of two parts. Assumes nothing.
use Rattle.std.proofs.Common.{◌≡◌, ℕ, ◌+◌, ◌%◌, ◌<◌, List, [], ◌∷◌, ◌++◌, length, get_or, take, sym, ap, ◌∙◌, add-one, arith, take-suc}
use native.Mathlib.Nat.{mod-add-mod}
use Rattle.fronts.specs.Frame.{total, sum_byte}

total_snoc : (s : List ℕ) (b : ℕ) → total (s ++ (b ∷ [])) ≡ total s + b
total_snoc [] b = omega arith
total_snoc (a ∷ s) b = omega (arith, total_snoc s b)

pub sum-next : (s : List ℕ) (i : ℕ) → i < length s → (sum_byte (take i s) + get_or s i 0) % 256 ≡ sum_byte (take (i + 1) s)
sum-next s i h =
    mod-add-mod (total (take i s)) 256 (get_or s i 0)
    ∙ ap (λ (n : ℕ). n % 256) (sym (total_snoc (take i s) (get_or s i 0)))
    ∙ ap sum_byte (sym (take-suc s i 0 h) ∙ ap (λ (n : ℕ). take n s) (sym (add-one i)))

total-append : (s t : List ℕ) → total (s ++ t) ≡ total s + total t
total-append [] t = omega arith
total-append (b ∷ s) t = omega (arith, total-append s t)

pub sum-append : (s t : List ℕ) → (sum_byte s + sum_byte t) % 256 ≡ sum_byte (s ++ t)
sum-append s t = omega (arith, total-append s t)
