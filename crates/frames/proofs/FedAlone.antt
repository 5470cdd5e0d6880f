-- A reader that holds nothing, fed exactly a frame's bytes or what the writer wrote, has that frame. Assumes nothing.
use mathlib.Core.Path.{◌≡◌, refl, sym, ap, ap₂, ◌∙◌}
use mathlib.Core.Bool.{true}
use mathlib.Core.List.{List, [], ◌∷◌, ◌++◌, append_assoc, append-nil}
use Prim.Native.Nat.{ℕ, ◌+◌, ◌≤◌, ◌<◌}
use native.Mathlib.Omega.{arith}
use lib.ListN.{length, take, drop, length-append}
use Rattle.fronts.specs.declared.front.Front.{Front}
use Rattle.fronts.specs.declared.front.Front.TheVariants.{Whole, Dead, Open}
use Rattle.frames.specs.declared.reader.Reader.{Reader}
use Rattle.fronts.specs.Frame.{max_data, frame_size, Frame, encode, length_at, frame_at}
use Rattle.fronts.specs.Fronts.{front_of}
use Rattle.frames.specs.LiveReading.{with_frame, feeding_call, handed_back, fed, fed_alone}
use Rattle.frames.specs.Buffer.{writable, written_size, written_room}
use Rattle.fronts.proofs.Fronts.{dead-whole, whole-passed}
use Rattle.fronts.proofs.MoreBytes.{length_more, dead-more}
use Rattle.fronts.proofs.Sizes.{encode-size}
use Rattle.fronts.proofs.Encodings.{length_encoded, frame_encoded, behind_encoded, front_encoded}
use Rattle.frames.proofs.Turns.{feeding-whole, feeding_open}
use Rattle.frames.proofs.RoundTrips.{writable-small, front-written}
use Rattle.frames.proofs.Calls.{fed-accepted}

module _ (f : Frame) (small : length f.payload ≤ max_data) where
  whole : front_of (encode f) ≡ Whole
  whole = sym (ap front_of (append-nil (encode f))) ∙ front_encoded f [] small

  announced : length_at (encode f) ≡ length f.payload
  announced = sym (ap length_at (append-nil (encode f))) ∙ length_encoded f []

  -- the first bytes of a frame, but not all, are an open front
  first_open : (p q : List ℕ) → p ++ q ≡ encode f → length p < length (encode f) → front_of p ≡ Open
  first_open p q e less = go (front_of p) refl
    where
      go : (x : Front) → front_of p ≡ x → front_of p ≡ Open
      go Open w = w
      go Dead w = absurd (dead-whole (sym (dead-more p q w) ∙ ap front_of e ∙ whole))
      go Whole w =
          let k = (whole-passed p w).there in
          let L : length_at p ≡ length f.payload = sym (length_more p q (omega arith)) ∙ ap length_at e ∙ announced in
          absurd (omega (arith, encode-size f))

  -- p is held and q is still to come
  feeding_encoded : (q p : List ℕ) → p ++ q ≡ encode f → feeding_call q p 0 (length p) ≡ with_frame (length (encode f)) (encode f) 0
  feeding_encoded [] p e =
      let all : p ≡ encode f = sym (append-nil p) ∙ e in
      feeding-whole [] p 0 (length p) (ap front_of all ∙ whole) ∙ ap (λ (h : List ℕ). with_frame (length h) h 0) all
  feeding_encoded (x ∷ q) p e =
      let less : length p < length (encode f) = omega (arith, ap length e, length-append p (x ∷ q)) in
      let next : length p + 1 ≡ length (p ++ (x ∷ [])) = omega (arith, length-append p (x ∷ [])) in
      feeding_open x q p 0 (length p) (first_open p (x ∷ q) e less)
      ∙ ap (feeding_call q (p ++ (x ∷ [])) 0) next
      ∙ feeding_encoded q (p ++ (x ∷ [])) (append_assoc p (x ∷ []) q ∙ e)

  with_encoded : with_frame (length (encode f)) (encode f) 0
      ≡ record { held = []; taken = length (encode f); dropped = 0; found = true; frame = f }
  unfolding with_frame
  with_encoded =
      let behind : drop (frame_size (length_at (encode f))) (encode f) ≡ [] =
      ap (λ (s : List ℕ). drop (frame_size (length_at s)) s) (sym (append-nil (encode f))) ∙ behind_encoded f [] in
      let same : frame_at (encode f) ≡ f = ap frame_at (sym (append-nil (encode f))) ∙ frame_encoded f [] in
      ap₂ (λ (h : List ℕ) (g : Frame). record { held = h; taken = length (encode f); dropped = 0; found = true; frame = g }) behind same

  pub fed-alone : (r : Reader) → r.count ≡ 0 → fed r (encode f) ≡ fed_alone f
  fed-alone r none =
      fed-accepted r (encode f) (omega arith)
      ∙ ap (λ (h : List ℕ). handed_back (feeding_call (encode f) h 0 0)) (ap (λ (n : ℕ). take n r.held) none)
      ∙ ap handed_back (feeding_encoded (encode f) [] refl ∙ with_encoded)

pub fed-written : (f : Frame) (room : List ℕ) → writable f room ≡ true → (r : Reader) → r.count ≡ 0
    → fed r (take (written_size f room) (written_room f room)) ≡ fed_alone f
fed-written f room ok r none = ap (fed r) (front-written f room ok) ∙ fed-alone f (writable-small f room ok) r none
