-- `frames::writer::write` meets its contract: the header, the data and the sum in turn. Assumes nothing.
use mathlib.Core.Path.{◌≡◌, sym, ap, ◌∙◌}
use mathlib.Core.Bool.{Bool, cond}
use mathlib.Core.List.{List, ◌++◌}
use Prim.Native.Nat.{ℕ, ◌+◌, ◌-◌, ◌≤◌}
use native.Mathlib.Omega.{arith}
use Prim.Native.Nat.{min}
use lib.ListN.{length, take, drop, set, length-set, length-append, length-drop, length-take}
use lib.Seq.{sets, sets-eq, length-take-le}
use Rattle.fronts.specs.Frame.{max_data, header_size, frame_size, Frame, unsummed, encode, sum_byte}
use Rattle.frames.specs.Buffer.{Written, written_size, written_room}
use Rattle.frames.proofs.Writes.{writable-fits, unwritable_long, unwritable_narrow, header, copied, same_size, finished}
use Rattle.frames.proofs.writer.write.Goals as goal

-- the room once header and data are written, at as many bytes as were copied
module _ (f : Frame) (room headed p : List ℕ) (small : length f.payload ≤ max_data) (fits : frame_size (length f.payload) ≤ length room)
    (h : headed ≡ sets room 0 (header f)) where
  abbrev n : ℕ
  n = length f.payload

  abbrev part : List ℕ
  part = take (6 + n - 6) (drop 6 headed)

  part_size : length part ≡ n
  part_size =
      let whole : headed ≡ header f ++ drop 6 room = h ∙ sets-eq (header f) room 0 (omega arith) in
      omega (
        arith,
        ap length whole,
        length-append (header f) (drop 6 room),
        length-drop 6 room,
        length-drop 6 headed,
        length-take (6 + n - 6) (drop 6 headed),
      )

  abbrev filled : List ℕ
  filled = take 6 headed ++ (p ++ drop (6 + n - 6) (drop 6 headed))

  module _ (k : ℕ) (count : k ≡ min n (length part)) (e : p ≡ take k f.payload ++ drop k part) where
    filled_is : filled ≡ unsummed f ++ drop (header_size + n) room
    filled_is =
        let all : k ≡ n = omega (arith, part_size) in
        copied f room fits (6 + n - 6) headed p (omega arith) h (e ∙ ap (λ (i : ℕ). take i f.payload ++ drop i part) all)

    filled_size : length filled ≡ length room
    filled_size = same_size f room fits filled filled_is

    filled_front : 6 + n ≡ length (take (6 + n) filled)
    filled_front = sym (length-take-le (6 + n) filled (omega (arith, filled_size)))

    written : (t : ℕ) → t ≡ sum_byte (take (header_size + n) filled) → Written f room (7 + n) (set filled (6 + n) t)
    unfolding written_size written_room
    written t is =
        let yes = writable-fits f room small fits in
        let done = finished f room fits filled filled_is t is in
        record {
          gives = rw yes;
          leaves = done ∙ sym (ap (λ (b : Bool). cond b (encode f ++ drop (frame_size n) room) room) yes);
        }

pub returns-then-n-gt-MAX_DATA : goal.returns-then-n-gt-MAX_DATA
unfolding written_size written_room
returns-then-n-gt-MAX_DATA c =
    let o = c.args in
    let e = unwritable_long (record { version = o.version; command = o.command; payload = o.«data».now }) o.room.now c.if-n-gt-MAX_DATA.true in
    record { gives = rw e; leaves = rw e }

pub returns-then-room-size : goal.returns-then-room-size
unfolding written_size written_room
returns-then-room-size c =
    let o = c.args in
    let e =
    unwritable_narrow (record { version = o.version; command = o.command; payload = o.«data».now }) o.room.now (omega arith)
    (omega arith) in
    record { gives = rw e; leaves = rw e }

pub slice_bounds-sum-end-2 : goal.slice_bounds-sum-end-2
slice_bounds-sum-end-2 c =
    let o = c.args in
    filled_front (record { version = o.version; command = o.command; payload = o.«data».now }) o.room.now c.write_header.new.room
    c.copy.new.to (omega arith) (omega arith) c.write_header.ensures c.copy.result c.copy.ensures.count c.copy.ensures.copied

pub shape_of-room : goal.shape_of-room
shape_of-room c =
    let o = c.args in
    let f : Frame = record { version = o.version; command = o.command; payload = o.«data».now } in
    length-set (filled f o.room.now c.write_header.new.room c.copy.new.to (omega arith) (omega arith) c.write_header.ensures)
    (6 + length o.«data».now) c.sum.result
    ∙ filled_size f o.room.now c.write_header.new.room c.copy.new.to (omega arith) (omega arith) c.write_header.ensures c.copy.result
    c.copy.ensures.count c.copy.ensures.copied

pub returns : goal.returns
returns c =
    let o = c.args in
    written (record { version = o.version; command = o.command; payload = o.«data».now }) o.room.now c.write_header.new.room c.copy.new.to
    (omega arith) (omega arith) c.write_header.ensures c.copy.result c.copy.ensures.count c.copy.ensures.copied c.sum.result c.sum.ensures
