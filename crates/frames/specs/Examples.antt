-- Lengths at their edge (01, "Frames from the bench"), and calls on a reader that holds nothing or a few bytes (01, "Live reading").
-- Assumes nothing.
use Rattle.std.specs.Prelude.{◌≡◌, true, false, List, [], ◌∷◌, ◌++◌, ℕ}
use Rattle.fronts.specs.declared.front.Front.TheVariants.{Dead, Open}
use Rattle.fronts.specs.Frame.{Frame}
use Rattle.fronts.specs.Fronts.{front_of}
use Rattle.frames.specs.Finished.{finished}
use Rattle.frames.specs.LiveReading.{no_frame, holding, fed, quieted}

-- P1, the end request of channel 10
abbrev p1_frame : Frame
p1_frame = record { version = 0x00; command = 0xFE; payload = 0x0A ∷ [] }

abbrev p1_bytes : List ℕ
p1_bytes = 0x55 ∷ 0xAA ∷ 0x00 ∷ 0xFE ∷ 0x00 ∷ 0x01 ∷ 0x0A ∷ 0x08 ∷ []

-- "Length 02 07 can be a frame, 02 08 never"; a high length byte of 03 is enough
pub record LengthExamples : Type 0 where
  pub longest : front_of (0x55 ∷ 0xAA ∷ 0x00 ∷ 0x00 ∷ 0x02 ∷ 0x07 ∷ []) ≡ Open
  pub too_long : front_of (0x55 ∷ 0xAA ∷ 0x00 ∷ 0x00 ∷ 0x02 ∷ 0x08 ∷ []) ≡ Dead
  pub too_high : front_of (0x55 ∷ 0xAA ∷ 0x00 ∷ 0x00 ∷ 0x03 ∷ []) ≡ Dead

-- live reading, from a reader that holds nothing or what is given
pub record LiveExamples : Type 0 where
  -- P10's stray bytes alone: the call needs a new byte and none is left
  pub p10_cut :
      fed (holding []) (0x55 ∷ 0xAA ∷ 0x00 ∷ 0xFE ∷ 0x00 ∷ 0x01 ∷ [])
      ≡ record {
        next = holding (0x55 ∷ 0xAA ∷ 0x00 ∷ 0xFE ∷ 0x00 ∷ 0x01 ∷ []);
        taken = 6;
        dropped = 0;
        found = false;
        frame = finished no_frame;
      }
  -- a frame that is held is taken, and no new byte
  pub held_first : fed (holding (p1_bytes ++ p1_bytes))
      (0x55 ∷ []) ≡ record { next = holding p1_bytes; taken = 0; dropped = 0; found = true; frame = finished p1_frame }
  -- a high length byte of 03 is the end of a front at once
  pub too_high_fed : fed (holding []) (0x55 ∷ 0xAA ∷ 0x00 ∷ 0x00 ∷ 0x03 ∷ [])
      ≡ record { next = holding []; taken = 5; dropped = 5; found = false; frame = finished no_frame }
  -- an unfinished front is no frame to a quiet call, which reads on behind its first byte
  pub unfinished : quieted (holding (0x55 ∷ 0xAA ∷ p1_bytes))
      ≡ record { next = holding []; taken = 0; dropped = 2; found = true; frame = finished p1_frame }
  pub nothing_left : quieted (holding (0x55 ∷ 0xAA ∷ 0x00 ∷ []))
      ≡ record { next = holding []; taken = 0; dropped = 3; found = false; frame = finished no_frame }
