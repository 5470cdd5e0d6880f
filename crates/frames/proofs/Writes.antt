-- A frame written in three steps, the header, the data and the sum, is the frame's bytes; and when it is written at all.
-- Assumes nothing.
use mathlib.Core.Path.{◌≡◌, sym, ap, ap₂, ◌∙◌}
use mathlib.Core.Bool.{true, false}
use mathlib.Core.List.{List, [], ◌∷◌, ◌++◌, append_assoc, append-nil}
use Prim.Native.Nat.{ℕ, suc, ◌+◌, ◌/◌, ◌%◌, ◌≤◌, ◌<◌}
use native.Mathlib.Omega.{arith}
use borrow.Author.Tests.{le-leb, lt-leb}
use lib.ListN.{length, take, drop, get_or, set, length-append, length-drop}
use lib.Seq.{slice_empty, sets, sets-eq, take_all, take_at, drop-drop, drop-cons, set_at}
use Rattle.fronts.specs.Frame.{head1, head2, max_data, header_size, frame_size, sum_byte, Frame, unsummed, encode}
use Rattle.fronts.proofs.Sizes.{unsummed-size}
use Rattle.frames.specs.Buffer.{writable}

-- ---- whether it is written

pub writable-fits : (f : Frame) (room : List ℕ) → length f.payload ≤ max_data → frame_size (length f.payload) ≤ length room
    → writable f room ≡ true
unfolding writable
writable-fits f room small fits =
    rw (le-leb (length f.payload) max_data small) (le-leb (frame_size (length f.payload)) (length room) fits)

pub unwritable_long : (f : Frame) (room : List ℕ) → max_data < length f.payload → writable f room ≡ false
unfolding writable
unwritable_long f room long = rw (lt-leb (length f.payload) max_data long)

pub unwritable_narrow : (f : Frame) (room : List ℕ) → length f.payload ≤ max_data → length room < frame_size (length f.payload)
    → writable f room ≡ false
unfolding writable
unwritable_narrow f room small narrow =
    rw (le-leb (length f.payload) max_data small) (lt-leb (frame_size (length f.payload)) (length room) narrow)

-- ---- the three steps

abbrev pub header : Frame → List ℕ
header f = head1 ∷ head2 ∷ f.version ∷ f.command ∷ length f.payload / 256 ∷ length f.payload % 256 ∷ []

module _ (f : Frame) (room : List ℕ) (fits : frame_size (length f.payload) ≤ length room) where
  abbrev n : ℕ
  n = length f.payload

  -- k is the size of the part that the data is copied to
  pub copied : (k : ℕ) (h p : List ℕ) → k ≡ n → h ≡ sets room 0 (header f) → p ≡ take n f.payload ++ drop n (take k (drop 6 h))
      → take 6 h ++ (p ++ drop k (drop 6 h)) ≡ unsummed f ++ drop (header_size + n) room
  unfolding unsummed
  copied k h p ek eh ep =
      let whole : h ≡ header f ++ drop 6 room = eh ∙ sets-eq (header f) room 0 (omega arith) in
      let front : take 6 h ≡ header f = ap (take 6) whole in
      let behind : drop 6 h ≡ drop 6 room = ap (drop 6) whole in
      let none : drop n (take k (drop 6 h)) ≡ [] = ap (λ (i : ℕ). drop n (take i (drop 6 h))) ek ∙ slice_empty n (drop 6 h) in
      let part : p ≡ f.payload = ep ∙ ap₂ ◌++◌ (take_all n f.payload (omega arith)) none ∙ append-nil f.payload in
      let rest : drop k (drop 6 h) ≡ drop (header_size + n) room = ap₂ (λ (i : ℕ) (l : List ℕ). drop i l) ek behind ∙ drop-drop n 6 room in
      ap₂ ◌++◌ front (ap₂ ◌++◌ part rest)

  -- x is the room without the sum
  module _ (x : List ℕ) (e : x ≡ unsummed f ++ drop (header_size + n) room) where
    pub unsummed-take : take (header_size + n) x ≡ unsummed f
    unsummed-take = ap (take (header_size + n)) e ∙ take_at (unsummed f) (drop (header_size + n) room) (header_size + n) (unsummed-size f)

    pub same_size : length x ≡ length room
    same_size =
        omega (
          arith,
          ap length e,
          length-append (unsummed f) (drop (header_size + n) room),
          unsummed-size f,
          length-drop (header_size + n) room,
        )

    pub finished : (t : ℕ) → t ≡ sum_byte (take (header_size + n) x) → set x (header_size + n) t ≡ encode f ++ drop (frame_size n) room
    unfolding encode
    finished t s =
        let m = header_size + n in
        let right : t ≡ sum_byte (unsummed f) = s ∙ ap sum_byte unsummed-take in
        let next : suc m ≡ frame_size n = omega arith in
        ap (λ (l : List ℕ). set l m t) (e ∙ ap (λ (l : List ℕ). unsummed f ++ l) (drop-cons room m 0 (omega arith)))
        ∙ set_at (unsummed f) (get_or room m 0) (drop (suc m) room) t m (unsummed-size f)
        ∙ ap₂ (λ (b i : ℕ). unsummed f ++ (b ∷ drop i room)) right next
        ∙ sym (append_assoc (unsummed f) (sum_byte (unsummed f) ∷ []) (drop (frame_size n) room))
