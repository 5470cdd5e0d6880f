-- What the writer writes the reader reads back, and a whole frame is what the writer writes for its fields. Assumes nothing.
use mathlib.Core.Path.{◌≡◌, sym, ap, ap₂, ◌∙◌}
use mathlib.Core.Bool.{Bool, true, cond, and-eq-true_iff}
use mathlib.Core.List.{List, [], ◌++◌}
use Prim.Native.Nat.{ℕ, ◌≤◌}
use native.Mathlib.Omega.{arith}
use borrow.Author.Tests.{leb-true}
use lib.Dec.{leb}
use lib.ListN.{length, take, drop}
use lib.Seq.{take_at}
use Rattle.sequences.specs.Bytes.{Bytes}
use Rattle.fronts.specs.Frame.{max_data, frame_size, Frame, encode, length_at, frame_at}
use Rattle.fronts.specs.Fronts.{front_of, is_whole}
use Rattle.frames.specs.Buffer.{whole_at, data_at, writable, written_size, written_room, RoundTrip}
use Rattle.fronts.proofs.Fronts.{is-whole, whole-passed}
use Rattle.fronts.proofs.Sizes.{encode-size}
use Rattle.frames.proofs.Writes.{writable-fits}
use Rattle.fronts.proofs.Encodings.{frame_encoded, front_encoded, encoded_whole, payload-size}

module _ (f : Frame) (room : List ℕ) (ok : writable f room ≡ true) where
  abbrev behind : List ℕ
  behind = drop (frame_size (length f.payload)) room

  pub writable-small : length f.payload ≤ max_data
  unfolding writable
  writable-small =
      leb-true (length f.payload) max_data
      ((and-eq-true_iff (leb (length f.payload) max_data) (leb (frame_size (length f.payload)) (length room))).0 ok).0

  pub size-written : written_size f room ≡ frame_size (length f.payload)
  unfolding written_size
  size-written = rw ok

  pub room-written : written_room f room ≡ encode f ++ behind
  unfolding written_room
  room-written = rw ok

  -- the bytes of the frame are the first of the room
  pub front-written : take (written_size f room) (written_room f room) ≡ encode f
  front-written =
      ap₂ (λ (n : ℕ) (s : List ℕ). take n s) size-written room-written
      ∙ take_at (encode f) behind (frame_size (length f.payload)) (encode-size f)

  pub whole-written : whole_at (written_room f room) ≡ true
  unfolding whole_at
  whole-written = ap (λ (s : List ℕ). is_whole (front_of s)) room-written ∙ ap is_whole (front_encoded f behind writable-small)

  pub frame-written : frame_at (written_room f room) ≡ f
  frame-written = ap frame_at room-written ∙ frame_encoded f behind

  pub data_written : data_at (written_room f room) ≡ f.payload
  unfolding data_at
  data_written = ap₂ (λ (b : Bool) (g : Frame). cond b g.payload []) whole-written frame-written

-- a whole frame, written again
pub written-again : (s room : List ℕ) → Bytes s → whole_at s ≡ true → frame_size (length_at s) ≤ length room
    → written_room (frame_at s) room ≡ take (frame_size (length_at s)) s ++ drop (frame_size (length_at s)) room
unfolding whole_at
written-again s room p w fits =
    let f = frame_at s in
    let e = is-whole (front_of s) w in
    let n : length f.payload ≡ length_at s = payload-size s e in
    let small : length f.payload ≤ max_data = let u = (whole-passed s e).small in omega arith in
    let ok = writable-fits f room small (omega arith) in
    let same : encode f ≡ take (frame_size (length_at s)) s =
    sym (take_at (encode f) (drop (frame_size (length_at s)) s) (frame_size (length_at s)) (encode-size f ∙ ap frame_size n))
    ∙ ap (take (frame_size (length_at s))) (encoded_whole s p e) in
    room-written f room ok ∙ ap₂ (λ (q : List ℕ) (k : ℕ). q ++ drop (frame_size k) room) same n

pub round_trip : RoundTrip
round_trip = record { size = size-written; whole = whole-written; «data» = data_written; fields = frame-written; again = written-again }
