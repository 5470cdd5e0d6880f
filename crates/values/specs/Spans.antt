-- docs/CONSOLE.md, "Output": "SPAN tells which bytes changed: `AT:BYTES` with the place of the first changed byte and all bytes from it to
-- the last changed one, as they stand now; `-` where none changed." Assumes nothing.
use Rattle.std.specs.Prelude.{Bool, cond, not, List, [], ◌∷◌, ℕ, zero, suc, ◌-◌, ltb, eqb, length, get_or}
use Rattle.std.proofs.Math.Seq.{slice}
use Rattle.sequences.specs.Search.{find}
use Rattle.text.specs.Ascii.{ascii}
use Rattle.text.specs.Decimals.{decimal}
use Rattle.values.specs.Bytes.{digit_texts}

-- where the places end that both memories have
abbrev pub shared_end : List ℕ → List ℕ → ℕ
shared_end before after = length before - (length before - length after)

abbrev pub changed_at : List ℕ → List ℕ → ℕ → Bool
changed_at before after i = not (eqb (get_or before i 0) (get_or after i 0))

-- "the place of the first changed byte", of those from `from` on; no place before `end` where none changed
abbrev pub first_changed : List ℕ → List ℕ → ℕ → ℕ → ℕ
first_changed before after from end = find (changed_at before after) (end - from) from

-- the place behind the last of the first n that passes a test; 0 where none does
unfoldable pub behind_last : (ℕ → Bool) → ℕ → ℕ
behind_last p zero = 0
behind_last p (suc n) = cond (p n) (suc n) (behind_last p n)

-- "`AT:BYTES`", from the first changed place to behind the last one; "`-` where none changed"
abbrev pub span_texts : List ℕ → List ℕ → ℕ → List (List ℕ)
span_texts before after from =
    let end = shared_end before after in
    let first = first_changed before after from end in
    let to = behind_last (changed_at before after) end in
    cond (ltb first end) (decimal first ∷ ascii ":" ∷ digit_texts (slice first to after)) (ascii "-" ∷ [])
