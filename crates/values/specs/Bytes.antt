-- docs/CONSOLE.md, "Output": bytes. They are given as the texts that are put for them, one behind the other. Assumes nothing.
use Rattle.std.specs.Prelude.{List, [], ◌∷◌, ℕ}
use Rattle.text.specs.Ascii.{ascii}
use Rattle.text.specs.Hex.{hex_byte}

-- "bytes two upper-case hexadecimal digits each, without spaces": a text for each byte
abbrev pub digit_texts : List ℕ → List (List ℕ)
digit_texts [] = []
digit_texts (b ∷ s) = hex_byte b ∷ digit_texts s

-- "BYTES is what the call says that it wrote ..; `-` for none"
abbrev pub bytes_texts : List ℕ → List (List ℕ)
bytes_texts [] = ascii "-" ∷ []
bytes_texts (b ∷ s) = digit_texts (b ∷ s)
