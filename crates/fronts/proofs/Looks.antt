-- What stands at the positions of a sequence, seen from the front of a part of it. Assumes nothing.
use Rattle.std.proofs.Common.{◌≡◌, ℕ, ◌+◌, ◌<◌, ◌≤◌, List, length, get_or, take, drop, sym, ap, ◌∙◌, ap₂, arith, get_or-drop}
use lib.Seq.{slice}
use Rattle.fronts.specs.Frame.{header_size, sum_byte, length_at}
use Rattle.sequences.specs.Numbers.{number16}
use Rattle.sequences.proofs.Slices.{get_or-slice, take-slice}

-- the part of v from f to t
module _ (f t : ℕ) (v : List ℕ) where
  byte-seen : (i : ℕ) → f + i < t → get_or (drop f v) i 0 ≡ get_or (slice f t v) i 0
  byte-seen i h = get_or-drop f v i 0 ∙ sym (get_or-slice f t i v h)

  -- L is the announced length of a header that is there
  pub length_seen : f + header_size ≤ t → length_at (drop f v) ≡ length_at (slice f t v)
  length_seen h = ap₂ number16 (byte-seen 4 (omega arith)) (byte-seen 5 (omega arith))

  -- the sum of its first k bytes
  pub sum-seen : (k : ℕ) → f + k ≤ t → t ≤ length v → sum_byte (slice f (f + k) v) ≡ sum_byte (take k (slice f t v))
  sum-seen k h j = ap sum_byte (sym (take-slice f t k v h j))
