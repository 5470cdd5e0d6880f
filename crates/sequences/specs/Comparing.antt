-- Byte strings, "compared as they stand". Assumes nothing.
use Rattle.std.specs.Prelude.{◌≡◌, ◌↔◌, Bool, true, false, ◌&&◌, List, [], ◌∷◌, ℕ, eqb, length, take}

-- the same bytes
unfoldable pub same : List ℕ → List ℕ → Bool
same [] [] = true
same [] (b ∷ t) = false
same (a ∷ s) [] = false
same (a ∷ s) (b ∷ t) = eqb a b && same s t

-- The claim: they are the same exactly when they are equal.
abbrev pub SameIsEqual : Type 0
SameIsEqual = (s t : List ℕ) → (same s t ≡ true) ↔ (s ≡ t)

-- s begins with the bytes t
abbrev pub begins_with : List ℕ → List ℕ → Bool
begins_with s t = same (take (length t) s) t
