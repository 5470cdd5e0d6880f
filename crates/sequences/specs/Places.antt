-- Bytes written to a place among others. Assumes nothing.
use Rattle.std.specs.Prelude.{◌≡◌, cond, List, ◌++◌, ℕ, ◌+◌, ◌≤◌, leb, length, take, drop}

-- s with p from place `at` on; s itself where p does not fit there
unfoldable pub written_at : List ℕ → ℕ → List ℕ → List ℕ
written_at s at p = cond (leb (at + length p) (length s)) (take at s ++ (p ++ drop (at + length p) s)) s

-- what is written stands there, and nothing else has changed
pub record WritesOnly (s : List ℕ) (at : ℕ) (p : List ℕ) : Type 0 where
  pub there : at + length p ≤ length s → take (length p) (drop at (written_at s at p)) ≡ p
  pub before : (from n : ℕ) → from + n ≤ at → take n (drop from (written_at s at p)) ≡ take n (drop from s)
  pub behind : (from : ℕ) → at + length p ≤ from → drop from (written_at s at p) ≡ drop from s
  pub size : length (written_at s at p) ≡ length s

-- The claim, of every start and length.
abbrev pub WritesAnywhere : Type 0
WritesAnywhere = (s : List ℕ) (at : ℕ) (p : List ℕ) → WritesOnly s at p
