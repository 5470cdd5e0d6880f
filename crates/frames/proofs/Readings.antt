-- The reading of a byte sequence, step by step; a series is read as itself, and every byte sequence is a series. Assumes nothing.
use mathlib.Core.Path.{◌≡◌, refl, sym, ap, ap₂, ◌∙◌, subst}
use mathlib.Core.Bool.{Bool, true, false}
use mathlib.Core.List.{List, [], ◌∷◌, ◌++◌}
use Prim.Native.Nat.{ℕ, zero, suc, ◌+◌, ◌≤◌}
use native.Mathlib.Omega.{arith}
use lib.ListN.{length, drop, length-drop}
use Rattle.fronts.specs.declared.front.Front.TheVariants.{Whole}
use Rattle.sequences.specs.Bytes.{Bytes}
use Rattle.fronts.specs.Frame.{max_data, header_size, frame_size, Frame, encode, length_at, frame_at}
use Rattle.fronts.specs.Fronts.{front_of, is_whole}
use Rattle.frames.specs.Reading.{Reading, passing, dropping, reading_from, reading}
use Rattle.frames.specs.Series.{Series, none, stray, frame, ReadsSeries}
use Rattle.sequences.proofs.Bytes.{bytes_drop}
use Rattle.fronts.proofs.Fronts.{front-empty, whole_open, is-whole, whole-passed}
use Rattle.fronts.proofs.Encodings.{frame_encoded, behind_encoded, front_encoded, encoded_whole, payload-size}

-- ---- the two steps of a reading

reading-inside : (k : ℕ) (s : List ℕ) → reading_from k s ≡ reading (drop k s)
unfolding reading_from reading
reading-inside zero s = refl
reading-inside (suc k) [] = refl
reading-inside (suc k) (b ∷ s) = reading-inside k s

pub reading-none : reading [] ≡ record { frames = []; dropped = 0 }
unfolding reading_from reading
reading-none = refl

pub reading-whole : (s : List ℕ) → front_of s ≡ Whole → reading s ≡ passing (frame_at s) (reading (drop (frame_size (length_at s)) s))
unfolding reading_from reading
reading-whole [] e = absurd (whole_open (sym e ∙ front-empty))
reading-whole (b ∷ s) e =
    let n : suc (header_size + length_at (b ∷ s)) ≡ frame_size (length_at (b ∷ s)) = omega arith in
    rw (ap is_whole e) (ap (passing (frame_at (b ∷ s)))
    (reading-inside (header_size + length_at (b ∷ s)) s ∙ ap (λ (k : ℕ). reading (drop k (b ∷ s))) n))

pub reading-stray : (b : ℕ) (s : List ℕ) → is_whole (front_of (b ∷ s)) ≡ false → reading (b ∷ s) ≡ dropping (reading s)
unfolding reading_from reading
reading-stray b s e = rw e

pub reading_encoded : (f : Frame) (s : List ℕ) → length f.payload ≤ max_data → reading (encode f ++ s) ≡ passing f (reading s)
reading_encoded f s k =
    reading-whole (encode f ++ s) (front_encoded f s k)
    ∙ ap₂ (λ (g : Frame) (q : List ℕ). passing g (reading q)) (frame_encoded f s) (behind_encoded f s)

-- ---- series

pub series-read : {s : List ℕ} {fs : List Frame} {n : ℕ} → Series s fs n → reading s ≡ record { frames = fs; dropped = n }
series-read none = reading-none
series-read (stray {b = b} {s = s} e p) = reading-stray b s e ∙ ap dropping (series-read p)
series-read (frame {f = f} {s = s} k p) = reading_encoded f s k ∙ ap (passing f) (series-read p)

abbrev IsSeries : List ℕ → Reading → Type 0
IsSeries s r = Series s r.frames r.dropped

-- by induction on a bound of the length
series-within : (k : ℕ) (s : List ℕ) → length s ≤ k → Bytes s → IsSeries s (reading s)
series-within zero [] h p = subst (IsSeries []) (sym reading-none) none
series-within zero (b ∷ s) h p = absurd (omega arith)
series-within (suc k) [] h p = subst (IsSeries []) (sym reading-none) none
series-within (suc k) (b ∷ s) h p = go (is_whole (front_of (b ∷ s))) refl (λ t g q. series-within k t g q)
  where
    go : (w : Bool) → is_whole (front_of (b ∷ s)) ≡ w → ((t : List ℕ) → length t ≤ k → Bytes t → IsSeries t (reading t))
        → IsSeries (b ∷ s) (reading (b ∷ s))
    go true e ih =
        let S = b ∷ s in
        let whole = is-whole (front_of S) e in
        let t = drop (frame_size (length_at S)) S in
        let small : length (frame_at S).payload ≤ max_data = let u = (whole-passed S whole).small in omega (arith, payload-size S whole) in
        let rest = ih t (omega (arith, length-drop (frame_size (length_at S)) S)) (bytes_drop (frame_size (length_at S)) S p) in
        let x = frame {f = frame_at S} small rest in
        let y = subst (λ (q : List ℕ). Series q (frame_at S ∷ (reading t).frames) (reading t).dropped) (encoded_whole S p whole) x in
        subst (IsSeries S) (sym (reading-whole S whole)) y
    go false e ih = subst (IsSeries (b ∷ s)) (sym (reading-stray b s e)) (stray e (ih s (omega arith) p.1))

pub reads-series : ReadsSeries
reads-series = record { exact = series-read; every = λ s p. series-within (length s) s (omega arith) p }
