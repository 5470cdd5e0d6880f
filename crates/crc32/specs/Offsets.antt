-- The multiple of CRC-32's polynomial that messages are folded over, x^300 + x^155 + x^117 + x^89 + 1.
-- Assumes nothing.
use Rattle.std.specs.Prelude.{List, [], ◌∷◌, ℕ}

-- how many places after it a byte is added: 300 less the exponents of the other terms
abbrev pub offsets : List ℕ
offsets = 145 ∷ 183 ∷ 211 ∷ 300 ∷ []

abbrev pub far : ℕ
far = 300
