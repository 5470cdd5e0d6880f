-- The digits of bytes as a loop puts them, a byte at a time. Assumes nothing.
use mathlib.Core.Path.{◌≡◌, refl, sym, ap, ◌∙◌}
use mathlib.Core.List.{List, [], ◌∷◌, ◌++◌}
use Prim.Native.Nat.{ℕ, ◌+◌, ◌≤◌, ◌<◌}
use native.Mathlib.Numerals.{add-one}
use native.Mathlib.Omega.{arith}
use lib.ListN.{length, take, get_or}
use lib.Seq.{take_all, take-suc}
use Rattle.text.specs.Ascii.{ascii}
use Rattle.text.specs.Hex.{hex_byte}
use Rattle.values.specs.Bytes.{digit_texts, bytes_texts}

digits_append : (s t : List ℕ) → digit_texts (s ++ t) ≡ digit_texts s ++ digit_texts t
digits_append [] t = refl
digits_append (b ∷ s) t = ap (λ (d : List (List ℕ)). hex_byte b ∷ d) (digits_append s t)

pub digits-next : (s : List ℕ) (i : ℕ) → i < length s
    → digit_texts (take i s) ++ hex_byte (get_or s i 0) ∷ [] ≡ digit_texts (take (i + 1) s)
digits-next s i h =
    sym (ap (λ (n : ℕ). digit_texts (take n s)) (add-one i)
    ∙ ap digit_texts (take-suc s i 0 h)
    ∙ digits_append (take i s) (get_or s i 0 ∷ []))

pub digits-all : (s : List ℕ) (i : ℕ) → length s ≤ i → digit_texts (take i s) ≡ digit_texts s
digits-all s i h = ap digit_texts (take_all i s h)

-- of none, and of some
pub bytes-none : (s : List ℕ) → length s ≡ 0 → ascii "-" ∷ [] ≡ bytes_texts s
bytes-none [] e = refl
bytes-none (b ∷ s) e = absurd (omega arith)

pub bytes-some : (s : List ℕ) → (length s ≡ 0 → ⊥) → digit_texts s ≡ bytes_texts s
bytes-some [] n = absurd (n refl)
bytes-some (b ∷ s) n = refl
