-- A finished frame as the code hands it on: its data in an array of the largest size, with zeros past it. Assumes nothing.
use Rattle.std.specs.Prelude.{◌≡◌, cond, List, ℕ, ◌+◌, leb, ltb, length, take}
use Rattle.frames.specs.declared.finished.FinishedFrame.{FinishedFrame}
use Rattle.fronts.specs.Frame.{max_data, Frame}
use Rattle.sequences.specs.Padding.{zeros, padded}
use Rattle.sequences.specs.Places.{written_at}
use Rattle.frames.specs.Buffer.{written_size, written_room}

unfoldable pub finished : Frame → FinishedFrame
finished f = record { version = f.version; command = f.command; length = length f.payload; bytes = padded max_data f.payload }

-- the frame that it is: the first `length` of its bytes are its data
abbrev pub frame_of : FinishedFrame → Frame
frame_of f = record { version = f.version; command = f.command; payload = take f.length f.bytes }

-- a frame that is being made: without data, and with t behind the data so far. Where that is too long for a frame it stays as it is
abbrev pub no_data : ℕ → ℕ → FinishedFrame
no_data version command = record { version = version; command = command; length = 0; bytes = zeros max_data }

unfoldable pub extended : FinishedFrame → List ℕ → FinishedFrame
extended f t =
    let end = f.length + length t in
    cond (leb end max_data)
    (record { version = f.version; command = f.command; length = end; bytes = written_at f.bytes f.length t })
    f

-- what writing it gives, and the room as it leaves it: the writer's "for data over 519 bytes .. it gives 0 and writes nothing" is said of
-- the length that it claims
pub record FinishedWritten (f : FinishedFrame) (room : List ℕ) (size : ℕ) (after : List ℕ) : Type 0 where
  pub gives : size ≡ cond (ltb max_data f.length) 0 (written_size (frame_of f) room)
  pub leaves : after ≡ cond (ltb max_data f.length) room (written_room (frame_of f) room)
