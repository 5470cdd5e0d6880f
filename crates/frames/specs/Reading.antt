-- 01, "The frame": "The reading of a byte sequence: at the front, if a whole frame begins there, it is read and passed; otherwise
-- one byte is dropped. Repeat." Assumes nothing.
use Rattle.std.specs.Prelude.{cond, List, [], ◌∷◌, ℕ, zero, suc, ◌+◌}
use Rattle.fronts.specs.Frame.{header_size, Frame, length_at, frame_at}
use Rattle.fronts.specs.Fronts.{front_of, is_whole}

pub record Reading : Type 0 where
  pub frames : List Frame
  pub dropped : ℕ

-- a frame is read, and then the rest
abbrev pub passing : Frame → Reading → Reading
passing f r = record { frames = f ∷ r.frames; dropped = r.dropped }

-- one byte is dropped, and the rest is read
abbrev pub dropping : Reading → Reading
dropping r = record { frames = r.frames; dropped = r.dropped + 1 }

-- the reading of s, whose first `inside` bytes belong to the frame that was read last
unfoldable pub reading_from : ℕ → List ℕ → Reading
unfolding frame_at
reading_from inside [] = record { frames = []; dropped = 0 }
reading_from zero (b ∷ s) =
    let read = passing (frame_at (b ∷ s)) (reading_from (header_size + length_at (b ∷ s)) s) in
    let lost = dropping (reading_from zero s) in
    cond (is_whole (front_of (b ∷ s))) read lost
reading_from (suc inside) (b ∷ s) = reading_from inside s

unfoldable pub reading : List ℕ → Reading
reading s = reading_from 0 s
