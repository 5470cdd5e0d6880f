-- Numbers of two and four bytes, and their bytes in both orders. Assumes nothing.
use Rattle.std.specs.Prelude.{List, [], ◌∷◌, ℕ, ◌+◌, ◌*◌, ◌/◌, ◌%◌}

-- numbers of two bytes are below this, and numbers of four below that
abbrev pub max16 : ℕ
max16 = 65536

abbrev pub max32 : ℕ
max32 = 4294967296

-- a number by its bytes, the high one named first
abbrev pub number16 : ℕ → ℕ → ℕ
number16 high low = high * 256 + low

abbrev pub number32 : ℕ → ℕ → ℕ → ℕ → ℕ
number32 a b c d = number16 a b * 65536 + number16 c d

-- the last two bytes of x, high byte first
abbrev pub bytes16 : ℕ → List ℕ
bytes16 x = x / 256 % 256 ∷ x % 256 ∷ []

-- the last four
abbrev pub bytes32 : ℕ → List ℕ
bytes32 x = x / 16777216 % 256 ∷ x / 65536 % 256 ∷ x / 256 % 256 ∷ x % 256 ∷ []

-- the last two, low byte first
abbrev pub low_first16 : ℕ → List ℕ
low_first16 x = x % 256 ∷ x / 256 % 256 ∷ []

-- the last four
abbrev pub low_first32 : ℕ → List ℕ
low_first32 x = x % 256 ∷ x / 256 % 256 ∷ x / 65536 % 256 ∷ x / 16777216 % 256 ∷ []
