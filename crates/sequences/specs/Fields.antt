-- Fields at places of some bytes d, whose numbers are high byte first. A byte past the end counts as 0; a field that reaches past it is
-- shorter. Assumes nothing.
use Rattle.std.specs.Prelude.{List, ℕ, ◌+◌, get_or, take, drop}
use Rattle.sequences.specs.Numbers.{number16, number32}

abbrev pub byte_at : ℕ → List ℕ → ℕ
byte_at at d = get_or d at 0

abbrev pub number16_at : ℕ → List ℕ → ℕ
number16_at at d = number16 (byte_at at d) (byte_at (at + 1) d)

abbrev pub number32_at : ℕ → List ℕ → ℕ
number32_at at d = number32 (byte_at at d) (byte_at (at + 1) d) (byte_at (at + 2) d) (byte_at (at + 3) d)

-- the n bytes from `at` on
abbrev pub field_at : ℕ → ℕ → List ℕ → List ℕ
field_at at n d = take n (drop at d)
