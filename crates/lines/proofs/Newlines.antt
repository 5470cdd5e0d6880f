-- The first newline of some bytes. Assumes nothing.
use Rattle.std.proofs.Common.{◌≡◌, ℕ, zero, suc, ◌+◌, ◌<◌, ◌≤◌, Bool, true, false, eqb, ltb, List, [], ◌∷◌, length, get_or, refl, arith, eqb-true, ltb-false}
use Rattle.std.specs.Prelude.{Option, Some, None, cond}
use Rattle.std.specs.Option.{unwrap_or}
use Rattle.std.specs.List.{position, position_or_len}
use Rattle.std.proofs.lemmas.List.Recursion.{is_position_or_len}
use Rattle.sequences.proofs.Conditionals.{of_each}
use borrow.Author.Tests.{eqb-false}
use Rattle.lines.specs.Lines.{index_of, index_after, newline_byte, line_in}

-- ---- one byte more in front

within-after : (b : Bool) (k n : ℕ) → k ≤ n → index_after b k ≤ suc n
unfolding index_after
within-after true k n h = omega arith
within-after false k n h = omega arith

found_after : (b : Bool) (x k : ℕ) (s : List ℕ) → (b ≡ true → x ≡ newline_byte) → (k < length s → get_or s k 0 ≡ newline_byte)
    → index_after b k < suc (length s) → get_or (x ∷ s) (index_after b k) 0 ≡ newline_byte
unfolding index_after
found_after true x k s first rest h = first refl
found_after false x k s first rest h = rest (omega arith)

none_after : (b : Bool) (x k : ℕ) (s : List ℕ) → (b ≡ false → x ≡ newline_byte → ⊥) → ((i : ℕ) → i < k → get_or s i 0 ≡ newline_byte → ⊥)
    → (i : ℕ) → i < index_after b k → get_or (x ∷ s) i 0 ≡ newline_byte → ⊥
unfolding index_after
none_after true x k s first rest i h e = omega arith
none_after false x k s first rest zero h e = first refl e
none_after false x k s first rest (suc i) h e = rest i (omega arith) e

-- ---- it is the first

pub line-within : (s : List ℕ) → line_in s ≤ length s
unfolding index_of
line-within [] = omega arith
line-within (x ∷ s) = within-after (eqb x newline_byte) (line_in s) (length s) (line-within s)

pub newline-there : (s : List ℕ) → line_in s < length s → get_or s (line_in s) 0 ≡ newline_byte
unfolding index_of
newline-there [] h = absurd (omega arith)
newline-there (x ∷ s) h = found_after (eqb x newline_byte) x (line_in s) s (eqb-true x newline_byte) (newline-there s) h

pub no-newline-before : (s : List ℕ) (i : ℕ) → i < line_in s → get_or s i 0 ≡ newline_byte → ⊥
unfolding index_of
no-newline-before [] i h e = omega arith
no-newline-before (x ∷ s) i h e = none_after (eqb x newline_byte) x (line_in s) s (eqb-false x newline_byte) (no-newline-before s) i h e

-- ---- as std finds it

abbrev is_newline : ℕ → Bool
is_newline b = eqb b newline_byte

after-as-cond : (b : Bool) (k : ℕ) → index_after b k ≡ cond b 0 (1 + k)
unfolding index_after
after-as-cond true k = refl
after-as-cond false k = omega arith

line-place : (s : List ℕ) → line_in s ≡ position_or_len is_newline s
unfolding index_of
line-place s = is_position_or_len line_in is_newline refl (λ x t. after-as-cond (is_newline x) (line_in t)) s

pub line-found : (s : List ℕ) → line_in s ≡ unwrap_or (position is_newline s) (length s)
line-found s =
    let place = position_or_len is_newline s in
    of_each (λ (o : Option ℕ). line_in s ≡ unwrap_or o (length s)) (ltb place (length s)) (Some place) None
    (λ _. line-place s)
    (λ e. omega (arith, line-place s, ltb-false place (length s) e, line-within s))
