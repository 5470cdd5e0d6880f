-- 01, "Live reading".
--
-- "The record carries up to 526 held bytes inside itself, any bytes at all. A call looks at the front of what is held: a whole frame is
-- taken; a front that can no longer become a frame loses one byte; otherwise, and only then, the next new byte is taken. The call ends
-- at its first whole frame, or when it needs a new byte and none is left. .. It tells how many new bytes it took, how many bytes it
-- dropped, and the frame's command and L (both 0 without a frame) .. leaves zeros past the held bytes. A quiet call takes no new bytes
-- and treats an unfinished front as no frame; it ends at its first frame or when nothing is held."
-- Assumes nothing.
use Rattle.std.specs.Prelude.{◌≡◌, Bool, true, false, cond, List, [], ◌∷◌, ◌++◌, ℕ, ◌+◌, ◌≤◌, ◌<◌, leb, length, take, drop}
use Rattle.fronts.specs.declared.front.Front.{Front}
use Rattle.fronts.specs.declared.front.Front.TheVariants.{Whole, Dead, Open}
use Rattle.frames.specs.declared.reader.Reader.{Reader}
use Rattle.frames.specs.declared.reader.Fed.{Fed}
use Rattle.sequences.specs.Bytes.{Bytes}
use Rattle.fronts.specs.Frame.{max_data, max_frame, frame_size, Frame, FrameBytes, encode, length_at, frame_at}
use Rattle.fronts.specs.Fronts.{front_of, is_whole}
use Rattle.sequences.specs.Padding.{padded}
use Rattle.frames.specs.Finished.{finished}
use Rattle.frames.specs.Reading.{Reading, reading}
use Rattle.frames.specs.Buffer.{writable, written_size, written_room}

-- ---- a call on the held bytes

-- what a call leaves held, the two counts that it tells, and the frame that it ended at
pub record CallResult : Type 0 where
  pub held : List ℕ
  pub taken : ℕ
  pub dropped : ℕ
  pub found : Bool
  pub frame : Frame

-- what stands in a frame's place where there is none: "both 0 without a frame", and so is the rest
abbrev pub no_frame : Frame
no_frame = record { version = 0; command = 0; payload = [] }

-- the call ends at the frame at the front of the held bytes, which are those behind it from then on
unfoldable pub with_frame : ℕ → List ℕ → ℕ → CallResult
unfolding frame_at
with_frame taken held dropped =
    record { held = drop (frame_size (length_at held)) held; taken = taken; dropped = dropped; found = true; frame = frame_at held }

-- the call ends without a frame
abbrev pub without_frame : ℕ → List ℕ → ℕ → CallResult
without_frame taken held dropped = record { held = held; taken = taken; dropped = dropped; found = false; frame = no_frame }

-- one of three, by what stands at a front
abbrev pub by_front : Front → CallResult → CallResult → CallResult → CallResult
by_front Whole whole dead undecided = whole
by_front Dead whole dead undecided = dead
by_front Open whole dead undecided = undecided

-- "A call looks at the front of what is held: a whole frame is taken; a front that can no longer become a frame loses one byte";
-- otherwise `more` says how the call goes on, by the held bytes and how many were dropped
unfoldable pub looking : ℕ → (List ℕ → ℕ → CallResult) → List ℕ → ℕ → CallResult
unfolding with_frame
looking taken more [] dropped = more [] dropped
looking taken more (b ∷ held) dropped =
    let whole = with_frame taken (b ∷ held) dropped in
    let dead = looking taken more held (dropped + 1) in
    let undecided = more (b ∷ held) dropped in
    by_front (front_of (b ∷ held)) whole dead undecided

-- A feeding call, by the new bytes, the held ones, and how many it has dropped and taken: "otherwise, and only then, the next new byte
-- is taken. The call ends .. when it needs a new byte and none is left"
unfoldable pub feeding_call : List ℕ → List ℕ → ℕ → ℕ → CallResult
unfolding looking
feeding_call [] held dropped taken = looking taken (without_frame taken) held dropped
feeding_call (x ∷ new) held dropped taken = looking taken (λ h d. feeding_call new (h ++ (x ∷ [])) d (taken + 1)) held dropped

-- A quiet call, by the held bytes and how many it has dropped: it "takes no new bytes and treats an unfinished front as no frame; it
-- ends at its first frame or when nothing is held"
unfoldable pub quiet_call : List ℕ → ℕ → CallResult
unfolding with_frame
quiet_call [] dropped = without_frame 0 [] dropped
quiet_call (b ∷ held) dropped =
    let whole = with_frame 0 (b ∷ held) dropped in
    let less = quiet_call held (dropped + 1) in
    cond (is_whole (front_of (b ∷ held))) whole less

-- ---- a call on the reader

-- "up to 526 held bytes": the first `count` of `held`
abbrev pub held_bytes : Reader → List ℕ
held_bytes r = take r.count r.held

-- "leaves zeros past the held bytes"
abbrev pub holding : List ℕ → Reader
holding h = record { held = padded max_frame h; count = length h }

-- a call's result as the reader hands it back
abbrev pub handed_back : CallResult → Fed
handed_back c = record { next = holding c.held; taken = c.taken; dropped = c.dropped; found = c.found; frame = finished c.frame }

-- a reader whose count is above 526 goes back as it is
abbrev pub refused : Reader → Fed
refused r = record { next = r; taken = 0; dropped = 0; found = false; frame = finished no_frame }

-- what feeding some bytes gives
unfoldable pub fed : Reader → List ℕ → Fed
unfolding feeding_call
fed r new = cond (leb r.count max_frame) (handed_back (feeding_call new (held_bytes r) 0 0)) (refused r)

-- what quiet gives
unfoldable pub quieted : Reader → Fed
unfolding quiet_call
quieted r = cond (leb r.count max_frame) (handed_back (quiet_call (held_bytes r) 0)) (refused r)

-- ---- a call of a run

-- a quiet call, or one of feeding: "In a run, a feeding call is offered any first part of the bytes not yet taken, even none", here the
-- first n of them
pub data Call : Type 0 where
  feeding : ℕ → Call
  quiet : Call

-- it, by the held bytes and those not yet taken
unfoldable pub called : Call → List ℕ → List ℕ → CallResult
unfolding feeding_call quiet_call
called (feeding n) held rest = feeding_call (take n rest) held 0 0
called quiet held rest = quiet_call held 0

-- it, by those not yet taken and the reader
abbrev pub fed_by : Call → List ℕ → Reader → Fed
fed_by (feeding n) rest r = fed r (take n rest)
fed_by quiet rest r = quieted r

-- the bytes that it is offered
abbrev pub offered : Call → List ℕ → List ℕ
offered (feeding n) rest = take n rest
offered quiet rest = []

-- "Quiet .. comes only once every byte is taken"
abbrev pub due : Call → List ℕ → Type 0
due (feeding n) rest = Unit
due quiet rest = rest ≡ []

-- what a call found and dropped, and then the reading of what it left
abbrev pub called_then : CallResult → Reading → Reading
called_then c r = record { frames = cond c.found (c.frame ∷ r.frames) r.frames; dropped = c.dropped + r.dropped }

-- ---- the claims

-- What holds of the result of every call, by the held bytes and those not yet taken.
pub record CallKeeps (c : Call) (held rest : List ℕ) (result : CallResult) : Type 0 where
  -- cut into calls in any way, the bytes are read as they are in one piece
  pub reads : due c rest → reading (held ++ rest) ≡ called_then result (reading (result.held ++ drop result.taken rest))
  -- "up to 526 held bytes"
  pub small : length held ≤ max_frame → length result.held ≤ max_frame
  -- "L is 0 to 519"
  pub short : length result.frame.payload ≤ max_data
  -- bytes stay bytes
  pub bytes : Bytes held → Bytes rest → Bytes result.held
  pub frame : Bytes held → Bytes rest → FrameBytes result.frame
  -- a call takes of what it is offered, and all of it where it finds no frame; a frame uses bytes up
  pub within : result.taken ≤ length (offered c rest)
  pub unfound : result.found ≡ false → result.taken ≡ length (offered c rest)
  pub found : result.found ≡ true → length result.held + frame_size 0 ≤ length held + result.taken

-- all of a frame's bytes taken, none dropped, none held, and that frame
abbrev pub fed_alone : Frame → Fed
fed_alone f = record { next = holding []; taken = length (encode f); dropped = 0; found = true; frame = finished f }

pub record LiveReads : Type 0 where
  pub keeps : (c : Call) (held rest : List ℕ) → CallKeeps c held rest (called c held rest)
  -- a quiet call "ends at its first frame or when nothing is held"
  pub emptied : (held rest : List ℕ) → (called quiet held rest).found ≡ false → (called quiet held rest).held ≡ []
  -- on a reader, with "zeros past the held bytes", or handed back as it was
  pub accepted : (c : Call) (rest : List ℕ) (r : Reader) → r.count ≤ max_frame → fed_by c rest r ≡ handed_back (called c (held_bytes r) rest)
  pub refusal : (c : Call) (rest : List ℕ) (r : Reader) → max_frame < r.count → fed_by c rest r ≡ refused r
  -- a reader that holds nothing, fed exactly a frame's bytes, or exactly what the writer wrote
  pub alone : (r : Reader) (f : Frame) → r.count ≡ 0 → length f.payload ≤ max_data → fed r (encode f) ≡ fed_alone f
  pub written :
      (r : Reader) (f : Frame) (room : List ℕ) → r.count ≡ 0 → writable f room ≡ true
      → fed r (take (written_size f room) (written_room f room)) ≡ fed_alone f
