-- docs/CONSOLE.md, "Lines": "A byte is two hexadecimal digits, upper or lower case, with nothing between them." "Spaces may stand before
-- the bytes and between two of them, and at the line's end." Assumes nothing.
use Rattle.std.specs.Prelude.{Bool, true, false, cond, Option, Some, None, ◌&&◌, List, [], ◌∷◌, ℕ, ◌+◌, ◌*◌, ◌-◌, ltb, leb, length}
use Rattle.phrases.specs.Spaces.{is_space}

-- what a hexadecimal digit says: `0` (48) to `9` (57), `A` (65) to `F` (70), `a` (97) to `f` (102); 16 for another byte
unfoldable pub hex_of : ℕ → ℕ
hex_of b =
    cond (ltb b 48) 16
    (cond (leb b 57) (b - 48)
    (cond (ltb b 65) 16 (cond (leb b 70) (b - 65 + 10) (cond (ltb b 97) 16 (cond (leb b 102) (b - 97 + 10) 16)))))

abbrev pub is_hex : ℕ → Bool
is_hex b = ltb (hex_of b) 16

-- a byte stands at the front: "two hexadecimal digits .. with nothing between them"
abbrev pub is_pair : List ℕ → Bool
is_pair [] = false
is_pair (a ∷ []) = false
is_pair (a ∷ b ∷ s) = is_hex a && is_hex b

-- the byte that two digits are
abbrev pub byte_of : ℕ → ℕ → ℕ
byte_of a b = 16 * hex_of a + hex_of b

-- "bytes are pairs of hexadecimal digits": nothing else stands there but spaces
unfoldable pub are_pairs : List ℕ → Bool
are_pairs [] = true
are_pairs (a ∷ []) = is_space a
are_pairs (a ∷ b ∷ s) = cond (is_space a) (are_pairs (b ∷ s)) ((is_hex a && is_hex b) && are_pairs s)

-- the bytes that they are
unfoldable pub bytes_in : List ℕ → List ℕ
bytes_in [] = []
bytes_in (a ∷ []) = []
bytes_in (a ∷ b ∷ s) = cond (is_space a) (bytes_in (b ∷ s)) (byte_of a b ∷ bytes_in s)

-- how many there are, unless something else stands there
abbrev pub pairs_in : List ℕ → Option ℕ
pairs_in s = cond (are_pairs s) (Some (length (bytes_in s))) None
