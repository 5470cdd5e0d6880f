-- A feeding call as the list of its steps, and what each step keeps. Assumes nothing.
use mathlib.Core.Path.{◌≡◌, refl, sym, ap, ap₂, ◌∙◌, subst}
use mathlib.Core.Bool.{true, false, false≢true}
use mathlib.Core.List.{List, [], ◌∷◌, ◌++◌, append_assoc}
use Prim.Native.Nat.{ℕ, suc, ◌+◌, ◌-◌, ◌≤◌}
use native.Mathlib.Omega.{arith}
use lib.ListN.{length, drop, length-append, length-drop}
use lib.Seq.{drop-append-le, drop-nil}
use Rattle.fronts.specs.declared.front.Front.{Front}
use Rattle.fronts.specs.declared.front.Front.TheVariants.{Whole, Dead, Open}
use Rattle.sequences.specs.Bytes.{Bytes}
use Rattle.fronts.specs.Frame.{FrameBytes, max_data, max_frame, header_size, frame_size, Frame, length_at, frame_at}
use Rattle.fronts.specs.Fronts.{front_of, is_whole}
use Rattle.frames.specs.Reading.{Reading, passing, reading}
use Rattle.frames.specs.LiveReading.{CallResult, with_frame, without_frame, feeding_call, called_then}
use Rattle.sequences.proofs.Bytes.{bytes-append, bytes_drop, bytes_take, bytes-at}
use Rattle.fronts.proofs.Fronts.{front-empty, whole-passed}
use Rattle.fronts.proofs.MoreBytes.{length_more, whole-more, dead-more, frame-more, open_short}
use Rattle.fronts.proofs.Encodings.{payload-size}
use Rattle.frames.proofs.Readings.{reading-whole, reading-stray}
use Rattle.frames.proofs.Turns.{feeding-whole, feeding-dead, feeding_open, feeding-ends}

-- what is held, what is offered, the counts so far, and the result
pub data Steps : List ℕ → List ℕ → ℕ → ℕ → CallResult → Type 0 where
  finds : {h new : List ℕ} {d t : ℕ} → front_of h ≡ Whole → Steps h new d t (with_frame t h d)
  needs : {h : List ℕ} {d t : ℕ} → front_of h ≡ Open → Steps h [] d t (without_frame t h d)
  loses : {b : ℕ} {h new : List ℕ} {d t : ℕ} {c : CallResult} → front_of (b ∷ h) ≡ Dead → Steps h new (d + 1) t c → Steps (b ∷ h) new d t c
  takes : {x : ℕ} {h new : List ℕ} {d t : ℕ} {c : CallResult} → front_of h ≡ Open → Steps (h ++ (x ∷ [])) new d (t + 1) c
      → Steps h (x ∷ new) d t c

-- every feeding call has one: by the bytes offered, and then by the bytes held
module _ (new : List ℕ) (t : ℕ) (opens : (h : List ℕ) (d : ℕ) → front_of h ≡ Open → Steps h new d t (feeding_call new h d t)) where
  steps-held : (h : List ℕ) (d : ℕ) → Steps h new d t (feeding_call new h d t)
  steps-held [] d = opens [] d front-empty
  steps-held (b ∷ h) d = go (front_of (b ∷ h)) refl (steps-held h (d + 1))
    where
      go : (f : Front) → front_of (b ∷ h) ≡ f → Steps h new (d + 1) t (feeding_call new h (d + 1) t)
          → Steps (b ∷ h) new d t (feeding_call new (b ∷ h) d t)
      go Whole e ih = subst (Steps (b ∷ h) new d t) (sym (feeding-whole new (b ∷ h) d t e)) (finds e)
      go Dead e ih = subst (Steps (b ∷ h) new d t) (sym (feeding-dead new b h d t e)) (loses e ih)
      go Open e ih = opens (b ∷ h) d e

pub steps : (new h : List ℕ) (d t : ℕ) → Steps h new d t (feeding_call new h d t)
steps [] h d t = steps-held [] t (λ h d e. subst (Steps h [] d t) (sym (feeding-ends h d t e)) (needs e)) h d
steps (x ∷ new) h d t =
    steps-held (x ∷ new) t
    (λ h d e. subst (Steps h (x ∷ new) d t) (sym (feeding_open x new h d t e)) (takes e (steps new (h ++ (x ∷ [])) d (t + 1)))) h d

-- ---- what is taken

pub steps-taken : {h new : List ℕ} {d t : ℕ} {c : CallResult} → Steps h new d t c → t ≤ c.taken
unfolding with_frame
steps-taken (finds e) = omega arith
steps-taken (needs e) = omega arith
steps-taken (loses e p) = steps-taken p
steps-taken (takes e p) = omega (arith, steps-taken p)

pub steps-within : {h new : List ℕ} {d t : ℕ} {c : CallResult} → Steps h new d t c → c.taken ≤ t + length new
unfolding with_frame
steps-within (finds e) = omega arith
steps-within (needs e) = omega arith
steps-within (loses e p) = steps-within p
steps-within (takes e p) = omega (arith, steps-within p)

-- ---- a step forward

-- a frame uses bytes up
pub steps-found : {h new : List ℕ} {d t : ℕ} {c : CallResult} → Steps h new d t c → c.found ≡ true
    → length c.held + frame_size 0 + t ≤ length h + c.taken
unfolding with_frame
steps-found (finds {h = h} e) w = let k = (whole-passed h e).there in omega (arith, length-drop (frame_size (length_at h)) h)
steps-found (needs e) w = absurd (false≢true w)
steps-found (loses e p) w = omega (arith, steps-found p w)
steps-found (takes {x = x} {h = h} e p) w = omega (arith, length-append h (x ∷ []), steps-found p w)

-- without a frame, all that is offered is taken
pub steps-unfound : {h new : List ℕ} {d t : ℕ} {c : CallResult} → Steps h new d t c → c.found ≡ false → c.taken ≡ t + length new
unfolding with_frame
steps-unfound (finds e) w = absurd (false≢true (sym w))
steps-unfound (needs e) w = omega arith
steps-unfound (loses e p) w = steps-unfound p w
steps-unfound (takes e p) w = omega (arith, steps-unfound p w)

-- ---- sizes and bytes

pub steps-small : {h new : List ℕ} {d t : ℕ} {c : CallResult} → Steps h new d t c → length h ≤ max_frame → length c.held ≤ max_frame
unfolding with_frame
steps-small (finds {h = h} e) l = omega (arith, length-drop (frame_size (length_at h)) h)
steps-small (needs e) l = l
steps-small (loses e p) l = steps-small p (omega arith)
steps-small (takes {x = x} {h = h} e p) l = steps-small p (omega (arith, length-append h (x ∷ []), open_short h e))

-- the frame of a whole front
pub whole-short : (h : List ℕ) → front_of h ≡ Whole → length (frame_at h).payload ≤ max_data
whole-short h e = let k = (whole-passed h e).small in omega (arith, payload-size h e)

pub whole-bytes : (h : List ℕ) → Bytes h → FrameBytes (frame_at h)
unfolding frame_at
whole-bytes h p =
    record {
      version = bytes-at h 2 p;
      command = bytes-at h 3 p;
      payload = bytes_take (length_at h) (drop header_size h) (bytes_drop header_size h p);
    }

pub steps-short : {h new : List ℕ} {d t : ℕ} {c : CallResult} → Steps h new d t c → length c.frame.payload ≤ max_data
unfolding with_frame
steps-short (finds {h = h} e) = whole-short h e
steps-short (needs e) = omega arith
steps-short (loses e p) = steps-short p
steps-short (takes e p) = steps-short p

pub steps-bytes : {h new : List ℕ} {d t : ℕ} {c : CallResult} → Steps h new d t c → Bytes h → Bytes new
    → Bytes c.held × FrameBytes c.frame
unfolding with_frame
steps-bytes (finds {h = h} e) p q = (bytes_drop (frame_size (length_at h)) h p, whole-bytes h p)
steps-bytes (needs e) p q = (p, record { version = omega arith; command = omega arith; payload = tt })
steps-bytes (loses e x) p q = steps-bytes x p.1 q
steps-bytes (takes {x = x} {h = h} e y) p q = steps-bytes y (bytes-append h (x ∷ []) p (q.0, tt)) q.1

-- ---- the reading

-- after d bytes were dropped
abbrev pub dropped_before : ℕ → Reading → Reading
dropped_before d r = record { frames = r.frames; dropped = d + r.dropped }

-- with any bytes q behind those offered
pub steps-reading :
    {h new : List ℕ} {d t : ℕ} {c : CallResult} → Steps h new d t c → (q : List ℕ)
    → dropped_before d (reading (h ++ (new ++ q))) ≡ called_then c (reading (c.held ++ (drop (c.taken - t) new ++ q)))
unfolding with_frame
steps-reading (finds {h = h} {new = new} {d = d} {t = t} e) q =
    let none : ◌≡◌ {A = ℕ} 0 (t - t) = omega arith in
    let all = h ++ (new ++ q) in
    let there = (whole-passed h e).there in
    let n = length_more h (new ++ q) (omega arith) in
    ap (dropped_before d)
    (reading-whole all (whole-more h (new ++ q) e)
    ∙ ap₂ (λ (f : Frame) (k : ℕ). passing f (reading (drop (frame_size k) all))) (frame-more h (new ++ q) e) n
    ∙ ap (λ (s : List ℕ). passing (frame_at h) (reading s)) (drop-append-le (frame_size (length_at h)) h (new ++ q) there)
    ∙ ap (λ (k : ℕ). passing (frame_at h) (reading (drop (frame_size (length_at h)) h ++ (drop k new ++ q)))) none)
steps-reading (needs {h = h} {d = d} {t = t} e) q = ap (λ (s : List ℕ). dropped_before d (reading (h ++ (s ++ q)))) (sym (drop-nil (t - t)))
steps-reading (loses {b = b} {h = h} {new = new} {d = d} e p) q =
    let rest = reading (h ++ (new ++ q)) in
    let n : d + (rest.dropped + 1) ≡ d + 1 + rest.dropped = omega arith in
    ap (dropped_before d) (reading-stray b (h ++ (new ++ q)) (ap is_whole (dead-more (b ∷ h) (new ++ q) e)))
    ∙ ap (λ (k : ℕ). record { frames = rest.frames; dropped = k }) n
    ∙ steps-reading p q
steps-reading (takes {x = x} {h = h} {new = new} {d = d} {t = t} {c = c} e p) q =
    let n : suc (c.taken - (t + 1)) ≡ c.taken - t = omega (arith, steps-taken p) in
    ap (λ (s : List ℕ). dropped_before d (reading s)) (sym (append_assoc h (x ∷ []) (new ++ q)))
    ∙ steps-reading p q
    ∙ ap (λ (k : ℕ). called_then c (reading (c.held ++ (drop k (x ∷ new) ++ q)))) n
