-- Bytes in hexadecimal, two upper-case digits to a byte. Assumes nothing.
use Rattle.std.specs.Prelude.{Bool, cond, List, [], ◌∷◌, ◌++◌, ℕ, ◌+◌, ◌*◌, ◌/◌, ◌%◌, ltb, leb, length, drop}

abbrev pub hex_digit : ℕ → ℕ
hex_digit d = cond (ltb d 10) (48 + d) (55 + d)

abbrev pub hex_byte : ℕ → List ℕ
hex_byte b = hex_digit (b / 16) ∷ hex_digit (b % 16) ∷ []

abbrev pub hex_bytes : List ℕ → List ℕ
hex_bytes [] = []
hex_bytes (b ∷ s) = hex_byte b ++ hex_bytes s

-- the digits of s written to the front of a room that is long enough; else none are
abbrev pub hex_fits : List ℕ → List ℕ → Bool
hex_fits s room = leb (2 * length s) (length room)

abbrev pub hex_size : List ℕ → List ℕ → ℕ
hex_size s room = cond (hex_fits s room) (2 * length s) 0

abbrev pub hex_room : List ℕ → List ℕ → List ℕ
hex_room s room = cond (hex_fits s room) (hex_bytes s ++ drop (2 * length s) room) room
