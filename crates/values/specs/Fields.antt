-- docs/CONSOLE.md, "Output": "CHANGES is `|`, then for each field of the record that is another than before the command a space and
-- `field=value`": one field, of each kind of value. A name is given with the space before it and the `=` behind it. Assumes nothing.
use Rattle.std.specs.Prelude.{Bool, true, false, cond, List, [], ◌∷◌, ℕ, eqb}
use Rattle.sequences.specs.Comparing.{same}
use Rattle.sequences.specs.Numbers.{bytes32}
use Rattle.text.specs.Ascii.{ascii}
use Rattle.text.specs.Decimals.{decimal}
use Rattle.values.specs.Bytes.{digit_texts}
use Rattle.values.specs.Spans.{span_texts}

-- nothing for a field that is as before
abbrev pub unless_same : Bool → List (List ℕ) → List (List ℕ)
unless_same same-as-before texts = cond same-as-before [] texts

-- "all others as numbers"
abbrev pub number_field : List ℕ → ℕ → ℕ → List (List ℕ)
number_field name before after = unless_same (eqb before after) (name ∷ decimal after ∷ [])

-- "`checking` as 0 or 1", "the permit as 0 or 1"
abbrev pub bit_of : Bool → ℕ
bit_of false = 0
bit_of true = 1

-- "`phase` as its name": no two phases of a record have the same
abbrev pub phase_field : List ℕ → List ℕ → List (List ℕ)
phase_field before after = unless_same (same before after) (ascii " phase=" ∷ after ∷ [])

-- "`version`, `pid`, `md5` as their bytes"
abbrev pub bytes_field : List ℕ → List ℕ → List ℕ → List (List ℕ)
bytes_field name before after = unless_same (same before after) (name ∷ digit_texts after)

-- "`crc` and `register` as four bytes, high byte first"
abbrev pub four_bytes_field : List ℕ → ℕ → ℕ → List (List ℕ)
four_bytes_field name before after = unless_same (eqb before after) (name ∷ digit_texts (bytes32 after))

-- "`held` as SPAN, over all its 526 places"
abbrev pub held_field : List ℕ → List ℕ → List (List ℕ)
held_field before after = unless_same (same before after) (ascii " held=" ∷ span_texts before after 0)
