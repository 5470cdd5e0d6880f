-- A number in decimal, as its digits stand at the front of a buffer. Assumes nothing.
use mathlib.Core.Path.{◌≡◌, ap, subst, ◌∙◌}
use mathlib.Core.List.{List}
use Prim.Native.Nat.{ℕ}
use lib.ListN.{length, take}
use Rattle.io.specs.Digits.{last_digits, IsDigitCount}
use Rattle.text.specs.Decimals.{Decimal}

pub is-decimal : (n k : ℕ) (out : List ℕ) → k ≡ length (take k out) → IsDigitCount 10 1 n k → take k out ≡ last_digits 10 k n → Decimal n (take k out)
is-decimal n k out c w e =
    record { fewest = subst (λ (j : ℕ). IsDigitCount 10 1 n j) c w; spells = e ∙ ap (λ (j : ℕ). last_digits 10 j n) c }
