-- Internal: what the private functions of live reading promise one another. A call goes over the held bytes a and the new bytes b as
-- one sequence with two positions; what is held stands between them. No claim rests on this file. Assumes nothing.
use Rattle.std.specs.Prelude.{◌≡◌, true, cond, List, ◌++◌, ℕ, ◌+◌, ◌-◌, ◌≤◌, ◌<◌, length, get_or}
use Rattle.std.proofs.Math.Seq.{slice}
use Rattle.fronts.specs.declared.front.Front.TheVariants.{Whole}
use Rattle.frames.specs.declared.scan.Scan.{Scan}
use Rattle.fronts.specs.Frame.{head1, head2, max_frame}
use Rattle.fronts.specs.Fronts.{front_of}
use Rattle.frames.specs.LiveReading.{CallResult, with_frame, without_frame}

-- what is held where a scan stops
abbrev pub held_at : List ℕ → List ℕ → Scan → List ℕ
held_at a b s = slice s.from s.to (a ++ b)

-- the positions of a scan that has stopped
pub record Stop (a b : List ℕ) (s : Scan) : Type 0 where
  pub ordered : s.from ≤ s.to
  pub within : s.to ≤ length a + length b
  pub taken : length a ≤ s.to
  pub small : s.to ≤ s.from + max_frame
  pub whole : s.found ≡ true → front_of (held_at a b s) ≡ Whole

-- the result of a call that stops there
abbrev pub stopped_at : List ℕ → List ℕ → Scan → CallResult
stopped_at a b s =
    let whole = with_frame (s.to - length a) (held_at a b s) s.from in
    let none = without_frame (s.to - length a) (held_at a b s) s.from in
    cond s.found whole none

-- a scan that stops where the call with this result does
pub record Scanned (result : CallResult) (a b : List ℕ) (s : Scan) : Type 0 where
  pub stop : Stop a b s
  pub is : result ≡ stopped_at a b s

-- 01, "The frame": "Bytes: 55, AA, ..". By those of the two that stand below `to`, no frame begins at place i of v.
abbrev pub Stray : List ℕ → ℕ → ℕ → Type 0
Stray v to i = get_or v i 0 ≡ head1 → (i + 1 < to) × (get_or v (i + 1) 0 ≡ head2 → ⊥)

-- 01, "Live reading": each of these "can no longer become a frame": the places from `from` up to r, which is at most `to`. What stands
-- at r is left open: only time depends on it.
pub record Headless (v : List ℕ) (from to r : ℕ) : Type 0 where
  pub ordered : from ≤ r
  pub within : r ≤ to
  pub none : (i : ℕ) → from ≤ i → i < r → Stray v to i

-- the places that are searched together
abbrev pub block_size : ℕ
block_size = 64
