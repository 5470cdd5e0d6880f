-- What a call of live reading gives and keeps. Assumes nothing.
use mathlib.Core.Path.{◌≡◌, refl, sym, ap, ◌∙◌}
use mathlib.Core.Bool.{Bool, true, false, cond, false≢true}
use mathlib.Core.List.{List, [], ◌∷◌, ◌++◌, append-nil}
use Prim.Native.Nat.{ℕ, ◌+◌, ◌-◌, ◌≤◌, ◌<◌}
use native.Mathlib.Omega.{arith}
use borrow.Author.Tests.{le-leb, lt-leb}
use lib.ListN.{length, take, drop, length-drop, take-append-drop}
use lib.Seq.{drop-nil, drop-append-le}
use Rattle.frames.specs.declared.reader.Reader.{Reader}
use Rattle.sequences.specs.Bytes.{Bytes}
use Rattle.fronts.specs.Frame.{FrameBytes, max_data, max_frame, frame_size, length_at}
use Rattle.fronts.specs.Fronts.{front_of, is_whole}
use Rattle.frames.specs.Reading.{Reading, reading}
use Rattle.frames.specs.LiveReading.{CallResult, with_frame, feeding_call, quiet_call, held_bytes, holding, handed_back, refused}
use Rattle.frames.specs.LiveReading.{fed, quieted, Call, feeding, quiet, called, fed_by, due, called_then, CallKeeps}
use Rattle.sequences.proofs.Bytes.{bytes_drop, bytes_take}
use Rattle.sequences.proofs.Padding.{take-padded}
use Rattle.fronts.proofs.Fronts.{is-whole, whole-passed}
use Rattle.frames.proofs.Readings.{reading-whole, reading-stray}
use Rattle.frames.proofs.Steps.{steps, steps-within, steps-found, steps-unfound, steps-small, whole-short, whole-bytes}
use Rattle.frames.proofs.Steps.{steps-short, steps-bytes, dropped_before, steps-reading}

-- ---- on a reader

module _ (r : Reader) where
  pub fed-accepted : (new : List ℕ) → r.count ≤ max_frame → fed r new ≡ handed_back (feeding_call new (held_bytes r) 0 0)
  unfolding fed
  fed-accepted new h = rw (le-leb r.count max_frame h)

  pub fed-refused : (new : List ℕ) → max_frame < r.count → fed r new ≡ refused r
  unfolding fed
  fed-refused new h = rw (lt-leb r.count max_frame h)

  pub quieted-accepted : r.count ≤ max_frame → quieted r ≡ handed_back (quiet_call (held_bytes r) 0)
  unfolding quieted
  quieted-accepted h = rw (le-leb r.count max_frame h)

  pub quieted-refused : max_frame < r.count → quieted r ≡ refused r
  unfolding quieted
  quieted-refused h = rw (lt-leb r.count max_frame h)

pub call-accepted : (c : Call) (rest : List ℕ) (r : Reader) → r.count ≤ max_frame
    → fed_by c rest r ≡ handed_back (called c (held_bytes r) rest)
unfolding called
call-accepted (feeding n) rest r h = fed-accepted r (take n rest) h
call-accepted quiet rest r h = quieted-accepted r h

pub call-refused : (c : Call) (rest : List ℕ) (r : Reader) → max_frame < r.count → fed_by c rest r ≡ refused r
call-refused (feeding n) rest r h = fed-refused r (take n rest) h
call-refused quiet rest r h = quieted-refused r h

-- the held bytes of a reader that a call hands back
pub held-again : (h : List ℕ) → held_bytes (holding h) ≡ h
held-again h = take-padded max_frame h

-- ---- a quiet call

quiet-found : (h : List ℕ) (d : ℕ) → (quiet_call h d).found ≡ true → length (quiet_call h d).held + frame_size 0 ≤ length h
unfolding quiet_call with_frame
quiet-found [] d w = absurd (false≢true w)
quiet-found (b ∷ h) d w = go (is_whole (front_of (b ∷ h))) refl (quiet-found h (d + 1)) w
  where
    go : (x : Bool) → is_whole (front_of (b ∷ h)) ≡ x
        → ((quiet_call h (d + 1)).found ≡ true → length (quiet_call h (d + 1)).held + frame_size 0 ≤ length h)
        → (cond x (with_frame 0 (b ∷ h) d) (quiet_call h (d + 1))).found ≡ true
        → length (cond x (with_frame 0 (b ∷ h) d) (quiet_call h (d + 1))).held + frame_size 0 ≤ length (b ∷ h)
    go true e ih w = let k = (whole-passed (b ∷ h) (is-whole (front_of (b ∷ h)) e)).there in
        omega (arith, length-drop (frame_size (length_at (b ∷ h))) (b ∷ h))
    go false e ih w = omega (arith, ih w)

-- what holds of the result at its end
record QuietKeeps (h : List ℕ) (c : CallResult) : Type 0 where
  taken : c.taken ≡ 0
  small : length c.held ≤ length h
  short : length c.frame.payload ≤ max_data
  bytes : Bytes h → Bytes c.held
  frame : Bytes h → FrameBytes c.frame
  emptied : c.found ≡ false → c.held ≡ []

quiet_keeps : (h : List ℕ) (d : ℕ) → QuietKeeps h (quiet_call h d)
unfolding quiet_call with_frame
quiet_keeps [] d =
    record {
      taken = refl;
      small = omega arith;
      short = omega arith;
      bytes = λ p. p;
      frame = λ p. record { version = omega arith; command = omega arith; payload = tt };
      emptied = λ _. refl;
    }
quiet_keeps (b ∷ h) d = go (is_whole (front_of (b ∷ h))) refl (quiet_keeps h (d + 1))
  where
    go : (x : Bool) → is_whole (front_of (b ∷ h)) ≡ x → QuietKeeps h (quiet_call h (d + 1))
        → QuietKeeps (b ∷ h) (cond x (with_frame 0 (b ∷ h) d) (quiet_call h (d + 1)))
    go true e k =
        record {
          taken = refl;
          small = omega (arith, length-drop (frame_size (length_at (b ∷ h))) (b ∷ h));
          short = whole-short (b ∷ h) (is-whole (front_of (b ∷ h)) e);
          bytes = bytes_drop (frame_size (length_at (b ∷ h))) (b ∷ h);
          frame = whole-bytes (b ∷ h);
          emptied = λ w. absurd (false≢true (sym w));
        }
    go false e k =
        record {
          taken = k.taken;
          small = omega (arith, k.small);
          short = k.short;
          bytes = λ p. k.bytes p.1;
          frame = λ p. k.frame p.1;
          emptied = k.emptied;
        }

quiet-reading : (h : List ℕ) (d : ℕ) → dropped_before d (reading h) ≡ called_then (quiet_call h d) (reading (quiet_call h d).held)
unfolding quiet_call with_frame
quiet-reading [] d = refl
quiet-reading (b ∷ h) d = go (is_whole (front_of (b ∷ h))) refl (quiet-reading h (d + 1))
  where
    go : (x : Bool) → is_whole (front_of (b ∷ h)) ≡ x → dropped_before (d + 1) (reading h) ≡ called_then (quiet_call h (d + 1))
        (reading (quiet_call h (d + 1)).held)
        → dropped_before d (reading (b ∷ h))
        ≡ called_then (cond x (with_frame 0 (b ∷ h) d) (quiet_call h (d + 1)))
        (reading (cond x (with_frame 0 (b ∷ h) d) (quiet_call h (d + 1))).held)
    go true e ih = ap (dropped_before d) (reading-whole (b ∷ h) (is-whole (front_of (b ∷ h)) e))
    go false e ih =
        let n : d + ((reading h).dropped + 1) ≡ d + 1 + (reading h).dropped = omega arith in
        ap (dropped_before d) (reading-stray b h e) ∙ ap (λ (k : ℕ). record { frames = (reading h).frames; dropped = k }) n ∙ ih

-- ---- the law of one call: the bytes are read as they are in one piece

dropped-none : (r : Reading) → r ≡ dropped_before 0 r
dropped-none r = let n : r.dropped ≡ 0 + r.dropped = omega arith in ap (λ (k : ℕ). record { frames = r.frames; dropped = k }) n

-- offered the first n of the bytes not yet taken
pub feeding_law :
    (n : ℕ) (h rest : List ℕ)
    → reading (h ++ rest)
    ≡ called_then (called (feeding n) h rest) (reading ((called (feeding n) h rest).held ++ drop (called (feeding n) h rest).taken rest))
unfolding called
feeding_law n h rest =
    let new = take n rest in
    let c = feeding_call new h 0 0 in
    let p = steps new h 0 0 in
    let all : c.taken - 0 ≡ c.taken = omega arith in
    let within : c.taken ≤ length new = omega (arith, steps-within p) in
    dropped-none (reading (h ++ rest))
    ∙ ap (λ (s : List ℕ). dropped_before 0 (reading (h ++ s))) (sym (take-append-drop n rest))
    ∙ steps-reading p (drop n rest)
    ∙ ap (λ (i : ℕ). called_then c (reading (c.held ++ (drop i new ++ drop n rest)))) all
    ∙ ap (λ (s : List ℕ). called_then c (reading (c.held ++ s)))
    (sym (drop-append-le c.taken new (drop n rest) within) ∙ ap (drop c.taken) (take-append-drop n rest))

-- quiet, once every byte is taken
pub quiet_law : (h : List ℕ) → reading h ≡ called_then (called quiet h []) (reading (called quiet h []).held)
unfolding called
quiet_law h = dropped-none (reading h) ∙ quiet-reading h 0

pub call_law :
    (c : Call) (h rest : List ℕ) → due c rest → reading (h ++ rest) ≡ called_then (called c h rest)
    (reading ((called c h rest).held ++ drop (called c h rest).taken rest))
unfolding called
call_law (feeding n) h rest _ = feeding_law n h rest
call_law quiet h rest none =
    let c = quiet_call h 0 in
    let left : c.held ≡ c.held ++ drop c.taken rest = sym
    (ap (λ (s : List ℕ). c.held ++ s) (ap (drop c.taken) none ∙ drop-nil c.taken) ∙ append-nil c.held) in
    ap (λ (s : List ℕ). reading (h ++ s)) none ∙ ap reading (append-nil h) ∙ quiet_law h
    ∙ ap (λ (s : List ℕ). called_then c (reading s)) left

-- ---- what every call keeps

pub call-keeps : (c : Call) (h rest : List ℕ) → CallKeeps c h rest (called c h rest)
unfolding called
call-keeps (feeding n) h rest =
    let p = steps (take n rest) h 0 0 in
    record {
      reads = call_law (feeding n) h rest;
      small = steps-small p;
      short = steps-short p;
      bytes = λ x y. (steps-bytes p x (bytes_take n rest y)).0;
      frame = λ x y. (steps-bytes p x (bytes_take n rest y)).1;
      within = omega (arith, steps-within p);
      unfound = λ w. omega (arith, steps-unfound p w);
      found = λ w. omega (arith, steps-found p w);
    }
call-keeps quiet h rest =
    let k = quiet_keeps h 0 in
    record {
      reads = call_law quiet h rest;
      small = λ l. omega (arith, k.small);
      short = k.short;
      bytes = λ x _. k.bytes x;
      frame = λ x _. k.frame x;
      within = omega (arith, k.taken);
      unfound = λ _. k.taken;
      found = λ w. omega (arith, k.taken, quiet-found h 0 w);
    }

pub quiet-emptied : (h rest : List ℕ) → (called quiet h rest).found ≡ false → (called quiet h rest).held ≡ []
unfolding called
quiet-emptied h rest w = (quiet_keeps h 0).emptied w
