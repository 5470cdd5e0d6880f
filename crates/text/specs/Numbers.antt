-- The number that decimal digits say. Assumes nothing.
use Rattle.std.specs.Prelude.{Option, None, Some, cond, List, [], ◌∷◌, ℕ, ◌+◌, ◌*◌, ◌-◌, ltb, eqb, length}

-- what a digit, `0` (48) to `9` (57), says; 10 for another byte
abbrev pub digit_of : ℕ → ℕ
digit_of b = cond (ltb b 48) 10 (cond (ltb 57 b) 10 (b - 48))

-- what a digit says, if this byte is one
abbrev pub digit_said : ℕ → Option ℕ
digit_said b = cond (ltb 9 (digit_of b)) None (Some (digit_of b))

-- digits behind others that say n; every byte has to be one
abbrev pub said_behind : ℕ → List ℕ → Option ℕ
said_behind n [] = Some n
said_behind n (b ∷ s) = cond (ltb 9 (digit_of b)) None (said_behind (10 * n + digit_of b) s)

-- the number that 1 to 5 digits say, if these bytes are such digits
abbrev pub number_said : List ℕ → Option ℕ
number_said s = cond (eqb (length s) 0) None (cond (ltb 5 (length s)) None (said_behind 0 s))
