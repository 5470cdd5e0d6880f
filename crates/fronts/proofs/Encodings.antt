-- A frame's bytes are read as that frame, and a whole front is a frame's bytes. Assumes nothing.
use Rattle.std.proofs.Common.{◌≡◌, ℕ, suc, ◌+◌, ◌*◌, ◌/◌, ◌%◌, ◌<◌, ◌≤◌, List, [], ◌∷◌, ◌++◌, length, get_or, take, drop, sym, refl, ap, ◌∙◌, ap₂, append_assoc, div-add-mod', arith, length-append, length-drop, take-append-drop, length-take-le, drop-cons, take_at, take-add, drop_at}
use lib.Seq.{get_or_at, take-append_seam}
use Rattle.fronts.specs.declared.front.Front.TheVariants.{Whole}
use Rattle.sequences.specs.Bytes.{Bytes}
use Rattle.fronts.specs.Frame.{max_data, header_size, frame_size, sum_byte, Frame, unsummed, encode, length_at, frame_at}
use Rattle.fronts.specs.Fronts.{front_of}
use Rattle.fronts.proofs.Fronts.{Passed, whole-passed, passed-whole}
use Rattle.fronts.proofs.Sizes.{unsummed-size, encode-size}

-- ---- from a frame to its bytes and back

module _ (f : Frame) (s : List ℕ) where
  -- the sum stands behind the bytes before it
  split : encode f ++ s ≡ unsummed f ++ (sum_byte (unsummed f) ∷ s)
  unfolding encode
  split = append_assoc (unsummed f) (sum_byte (unsummed f) ∷ []) s

  pub length_encoded : length_at (encode f ++ s) ≡ length f.payload
  unfolding encode unsummed
  length_encoded = div-add-mod' (length f.payload) 256

  pub frame_encoded : frame_at (encode f ++ s) ≡ f
  unfolding frame_at encode unsummed
  frame_encoded =
      let d : take (length_at (encode f ++ s)) (drop header_size (encode f ++ s)) ≡ f.payload =
      ap (λ (i : ℕ). take i (drop header_size (encode f ++ s))) length_encoded
      ∙ ap (take (length f.payload)) (append_assoc f.payload (sum_byte (unsummed f) ∷ []) s)
      ∙ take-append_seam f.payload (sum_byte (unsummed f) ∷ s) in
      ap (λ (q : List ℕ). record { version = f.version; command = f.command; payload = q }) d

  pub behind_encoded : drop (frame_size (length_at (encode f ++ s))) (encode f ++ s) ≡ s
  behind_encoded = drop_at (encode f) s (frame_size (length_at (encode f ++ s))) (encode-size f ∙ ap frame_size (sym length_encoded))

  pub front_encoded : length f.payload ≤ max_data → front_of (encode f ++ s) ≡ Whole
  unfolding encode unsummed
  front_encoded k = passed-whole (encode f ++ s) passed
    where
      passed : Passed (encode f ++ s)
      passed =
          let n = header_size + length f.payload in
          let at : header_size + length_at (encode f ++ s) ≡ n = ap (λ (i : ℕ). header_size + i) length_encoded in
          let last : get_or (encode f ++ s) (header_size + length_at (encode f ++ s)) 0 ≡ sum_byte (unsummed f) =
          ap₂ (λ (i : ℕ) (q : List ℕ). get_or q i 0) at split ∙ get_or_at (unsummed f) (sum_byte (unsummed f)) s 0 n (unsummed-size f) in
          let front : take (header_size + length_at (encode f ++ s)) (encode f ++ s) ≡ unsummed f =
          ap₂ (λ (i : ℕ) (q : List ℕ). take i q) at split ∙ take_at (unsummed f) (sum_byte (unsummed f) ∷ s) n (unsummed-size f) in
          record {
            first = refl;
            second = refl;
            small = omega (arith, length_encoded);
            there = omega (arith, length_encoded, encode-size f, length-append (encode f) s);
            sum = last ∙ ap sum_byte (sym front);
          }

-- ---- from a whole front to the frame and back

-- the first six bytes of a whole front are the header of its frame
unsummed-front : (b0 b1 b2 b3 b4 b5 : ℕ) (t : List ℕ) → b0 ≡ 0x55 → b1 ≡ 0xAA → b5 < 256 → b4 * 256 + b5 ≤ length t
    → unsummed (frame_at (b0 ∷ b1 ∷ b2 ∷ b3 ∷ b4 ∷ b5 ∷ t)) ≡ b0 ∷ b1 ∷ b2 ∷ b3 ∷ b4 ∷ b5 ∷ take (b4 * 256 + b5) t
unfolding unsummed frame_at
unsummed-front b0 b1 b2 b3 b4 b5 t e0 e1 h k =
    let n : length (take (b4 * 256 + b5) t) ≡ b4 * 256 + b5 = length-take-le (b4 * 256 + b5) t k in
    let hi : (b4 * 256 + b5) / 256 ≡ b4 = omega arith in
    let lo : (b4 * 256 + b5) % 256 ≡ b5 = omega arith in
    simp (n, hi, lo, e0, e1)

unsummed-whole : (s : List ℕ) → Bytes s → Passed s → unsummed (frame_at s) ≡ take (header_size + length_at s) s
unsummed-whole [] p w = absurd (let k = w.there in omega arith)
unsummed-whole (b0 ∷ []) p w = absurd (let k = w.there in omega arith)
unsummed-whole (b0 ∷ b1 ∷ []) p w = absurd (let k = w.there in omega arith)
unsummed-whole (b0 ∷ b1 ∷ b2 ∷ []) p w = absurd (let k = w.there in omega arith)
unsummed-whole (b0 ∷ b1 ∷ b2 ∷ b3 ∷ []) p w = absurd (let k = w.there in omega arith)
unsummed-whole (b0 ∷ b1 ∷ b2 ∷ b3 ∷ b4 ∷ []) p w = absurd (let k = w.there in omega arith)
unsummed-whole (b0 ∷ b1 ∷ b2 ∷ b3 ∷ b4 ∷ b5 ∷ t) p w =
    let L = b4 * 256 + b5 in
    let k : L ≤ length t = let u = w.there in omega arith in
    unsummed-front b0 b1 b2 b3 b4 b5 t w.first w.second p.1.1.1.1.1.0 k ∙ sym (take-add 6 L (b0 ∷ b1 ∷ b2 ∷ b3 ∷ b4 ∷ b5 ∷ t))

pub encoded_whole : (s : List ℕ) → Bytes s → front_of s ≡ Whole → encode (frame_at s) ++ drop (frame_size (length_at s)) s ≡ s
encoded_whole s p e =
    let w = whole-passed s e in
    let m = header_size + length_at s in
    let behind = drop (frame_size (length_at s)) s in
    let there : m < length s = let k = w.there in omega arith in
    let H : unsummed (frame_at s) ≡ take m s = unsummed-whole s p w in
    let X : sum_byte (unsummed (frame_at s)) ≡ get_or s m 0 = ap sum_byte H ∙ sym w.sum in
    let N : frame_size (length_at s) ≡ suc m = omega arith in
    split (frame_at s) behind
    ∙ ap₂ (λ (q : List ℕ) (x : ℕ). q ++ (x ∷ behind)) H X
    ∙ ap (λ (i : ℕ). take m s ++ (get_or s m 0 ∷ drop i s)) N
    ∙ ap (λ (q : List ℕ). take m s ++ q) (sym (drop-cons s m 0 there))
    ∙ take-append-drop m s

-- the frame of a whole front has its announced length
pub payload-size : (s : List ℕ) → front_of s ≡ Whole → length (frame_at s).payload ≡ length_at s
unfolding frame_at
payload-size s e =
    let k = (whole-passed s e).there in
    length-take-le (length_at s) (drop header_size s) (omega (arith, length-drop header_size s))
