-- Numbers in decimal. Assumes nothing.
use Rattle.std.specs.Prelude.{◌≡◌, cond, List, [], ◌∷◌, ◌++◌, ℕ, zero, suc, ◌+◌, ◌/◌, ◌%◌, ltb, length}
use Rattle.io.specs.Digits.{last_digits, IsDigitCount}

-- t is n in decimal, without zeros in front
pub record Decimal (n : ℕ) (t : List ℕ) : Type 0 where
  pub fewest : IsDigitCount 10 1 n (length t)
  pub spells : t ≡ last_digits 10 (length t) n

-- the digit `0` has the code 48
abbrev pub digit_text : ℕ → List ℕ
digit_text d = (48 + d) ∷ []

-- n in at most so many digits: below ten its digit, else the digits of a tenth of it and then its last
unfoldable pub decimal_within : ℕ → ℕ → List ℕ
decimal_within zero n = []
decimal_within (suc most) n = cond (ltb n 10) (digit_text n) (decimal_within most (n / 10) ++ digit_text (n % 10))

-- n in decimal, without zeros in front: n has no more than n + 1 digits
abbrev pub decimal : ℕ → List ℕ
decimal n = decimal_within (suc n) n

-- The claim: there is no other.
abbrev pub OneDecimal : Type 0
OneDecimal = (n : ℕ) (t : List ℕ) → Decimal n t → t ≡ decimal n
