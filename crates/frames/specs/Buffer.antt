-- 01, "The frame": the reader for a whole buffer and the writer. Assumes nothing.
use Rattle.std.specs.Prelude.{◌≡◌, ◌↔◌, Bool, true, cond, ◌&&◌, List, [], ◌++◌, ℕ, ◌≤◌, leb, eqb, length, take, drop}
use Rattle.sequences.specs.Bytes.{Bytes}
use Rattle.fronts.specs.Frame.{header_size, max_data, frame_size, Frame, encode, length_at, frame_at}
use Rattle.fronts.specs.Fronts.{front_of, is_whole}

-- "Whether a whole frame begins at the buffer's first byte is a question of its own, answered yes exactly then"
unfoldable pub whole_at : List ℕ → Bool
whole_at s = is_whole (front_of s)

-- "hands the data back as that part of the caller's bytes"; "without one the part handed back is the empty one"
unfoldable pub data_at : List ℕ → List ℕ
unfolding whole_at
data_at s = cond (whole_at s) (frame_at s).payload []

-- where in the caller's bytes that part begins: behind the header; the empty one at the first byte
unfoldable pub data_place : List ℕ → ℕ
unfolding whole_at
data_place s = cond (whole_at s) header_size 0

-- one whole frame and nothing else: it begins at the first byte and ends at the last
unfoldable pub alone_at : List ℕ → Bool
alone_at s = whole_at s && eqb (frame_size (length (data_at s))) (length s)

-- its version byte and command; 0 without a frame
unfoldable pub version_at : List ℕ → ℕ
version_at s = cond (whole_at s) (frame_at s).version 0

unfoldable pub command_at : List ℕ → ℕ
command_at s = cond (whole_at s) (frame_at s).command 0

-- s is the bytes of one frame
pub record OneFrame (s : List ℕ) : Type 0 where
  pub frame : Frame
  pub small : length frame.payload ≤ max_data
  pub is : encode frame ≡ s

-- "for data over 519 bytes or room below 7 + L it gives 0 and writes nothing"
unfoldable pub writable : Frame → List ℕ → Bool
writable f room = leb (length f.payload) max_data && leb (frame_size (length f.payload)) (length room)

-- "The writer gives 7 + L"
unfoldable pub written_size : Frame → List ℕ → ℕ
unfolding writable
written_size f room = cond (writable f room) (frame_size (length f.payload)) 0

-- "Bytes past the frame stay"
unfoldable pub written_room : Frame → List ℕ → List ℕ
unfolding writable
written_room f room = cond (writable f room) (encode f ++ drop (frame_size (length f.payload)) room) room

-- the writer's contract: what it gives, and the room as it leaves it
pub record Written (f : Frame) (room : List ℕ) (size : ℕ) (after : List ℕ) : Type 0 where
  pub gives : size ≡ written_size f room
  pub leaves : after ≡ written_room f room

-- The claim: some bytes are one whole frame and nothing else exactly when they are a frame's bytes, and then its fields are read.
pub record ReadsAlone : Type 0 where
  pub means : (s : List ℕ) → Bytes s → (alone_at s ≡ true) ↔ OneFrame s
  pub version : (f : Frame) → length f.payload ≤ max_data → version_at (encode f) ≡ f.version
  pub command : (f : Frame) → length f.payload ≤ max_data → command_at (encode f) ≡ f.command
  pub «data» : (f : Frame) → length f.payload ≤ max_data → data_at (encode f) ≡ f.payload

-- The claim of the round trip: what the writer wrote, the reader reads back; and a whole frame is what the writer writes for its fields.
pub record RoundTrip : Type 0 where
  pub size : (f : Frame) (room : List ℕ) → writable f room ≡ true → written_size f room ≡ frame_size (length f.payload)
  pub whole : (f : Frame) (room : List ℕ) → writable f room ≡ true → whole_at (written_room f room) ≡ true
  pub «data» : (f : Frame) (room : List ℕ) → writable f room ≡ true → data_at (written_room f room) ≡ f.payload
  pub fields : (f : Frame) (room : List ℕ) → writable f room ≡ true → frame_at (written_room f room) ≡ f
  pub again : (s room : List ℕ) → Bytes s → whole_at s ≡ true → frame_size (length_at s) ≤ length room
      → written_room (frame_at s) room ≡ take (frame_size (length_at s)) s ++ drop (frame_size (length_at s)) room
