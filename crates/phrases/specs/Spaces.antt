-- docs/CONSOLE.md, "Lines": spaces "before each number", "before the bytes and between two of them, and at the line's end". Assumes
-- nothing.
use Rattle.std.specs.Prelude.{Bool, cond, List, [], ◌∷◌, ℕ, suc, eqb}

abbrev pub space_byte : ℕ
space_byte = 32

abbrev pub is_space : ℕ → Bool
is_space b = eqb b space_byte

-- how many bytes at the front pass a test
unfoldable pub front_count : (ℕ → Bool) → List ℕ → ℕ
front_count p [] = 0
front_count p (b ∷ s) = cond (p b) (suc (front_count p s)) 0

-- how many spaces stand at the front
abbrev pub spaces : List ℕ → ℕ
spaces s = front_count is_space s
