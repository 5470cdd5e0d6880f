-- Frames with stray bytes between them. 01, "Demand 3's runs": "Stray bytes are those outside the series' frames, true bytes those
-- inside." Assumes nothing.
use Rattle.std.specs.Prelude.{◌≡◌, false, List, [], ◌∷◌, ◌++◌, ℕ, ◌+◌, ◌≤◌, length}
use Rattle.sequences.specs.Bytes.{Bytes}
use Rattle.fronts.specs.Frame.{max_data, Frame, encode}
use Rattle.fronts.specs.Fronts.{front_of, is_whole}
use Rattle.frames.specs.Reading.{reading}

-- `Series s fs n`: s is the frames fs in their order, with n stray bytes before, between and behind them, at none of which a whole
-- frame begins, looking at all that follows
pub data Series : List ℕ → List Frame → ℕ → Type 0 where
  none : Series [] [] 0
  stray : {b : ℕ} {s : List ℕ} {fs : List Frame} {n : ℕ} → is_whole (front_of (b ∷ s)) ≡ false → Series s fs n → Series (b ∷ s) fs (n + 1)
  frame : {f : Frame} {s : List ℕ} {fs : List Frame} {n : ℕ} → length f.payload ≤ max_data → Series s fs n
      → Series (encode f ++ s) (f ∷ fs) n

-- The claim: a series is read as exactly its frames, with exactly its stray bytes dropped, and every byte sequence is the series of
-- its own reading.
pub record ReadsSeries : Type 0 where
  pub exact : {s : List ℕ} {fs : List Frame} {n : ℕ} → Series s fs n → reading s ≡ record { frames = fs; dropped = n }
  pub every : (s : List ℕ) → Bytes s → Series s (reading s).frames (reading s).dropped
