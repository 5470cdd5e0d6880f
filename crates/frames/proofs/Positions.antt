-- A call of live reading by positions: v is the held bytes and the new ones as one sequence, the first n of them held at first; what
-- is held stands from `from` to `to`. One law for each turn of the loops. Assumes nothing.
use mathlib.Core.Path.{◌≡◌, refl, sym, ap, ap₂, ◌∙◌}
use mathlib.Core.Bool.{false}
use mathlib.Core.List.{List, [], ◌++◌}
use mathlib.Core.Logic.{⊎_elim}
use Prim.Native.Nat.{ℕ, zero, suc, ◌+◌, ◌-◌, ◌≤◌, ◌<◌}
use native.Mathlib.Nat.{eq-or-lt_of_le}
use native.Mathlib.Numerals.{add-one}
use native.Mathlib.Omega.{arith}
use lib.ListN.{length, drop, get_or}
use lib.Seq.{slice, slice_empty, slice-cons, length-slice, drop-cons, drop-length, take-append_seam, drop-append_seam}
use Rattle.fronts.specs.declared.front.Front.TheVariants.{Whole, Dead, Open}
use Rattle.fronts.specs.Frame.{max_frame}
use Rattle.fronts.specs.Fronts.{front_of, is_whole}
use Rattle.frames.specs.LiveReading.{CallResult, with_frame, without_frame, feeding_call, quiet_call}
use Rattle.fronts.proofs.Fronts.{front-empty, dead_open}
use Rattle.fronts.proofs.MoreBytes.{open_short}
use Rattle.sequences.proofs.Slices.{slice_snoc}
use Rattle.frames.proofs.Turns.{feeding-whole, feeding-dead, feeding_open, feeding-ends, quiet-drops}

-- ---- a feeding call

-- how the call goes on from there
abbrev pub feeding_at : List ℕ → ℕ → ℕ → ℕ → CallResult
feeding_at v n from to = feeding_call (drop to v) (slice from to v) from (to - n)

pub feeding-start : (a b : List ℕ) → feeding_call b a 0 0 ≡ feeding_at (a ++ b) (length a) 0 (length a)
feeding-start a b =
    let none : ◌≡◌ {A = ℕ} 0 (length a - length a) = omega arith in
    ap₂ (λ (new h : List ℕ). feeding_call new h 0 0) (sym (drop-append_seam a b)) (sym (take-append_seam a b))
    ∙ ap (λ (t : ℕ). feeding_call (drop (length a) (a ++ b)) (slice 0 (length a) (a ++ b)) 0 t) none

module _ (v : List ℕ) (n from to : ℕ) where
  -- a dead front has a byte
  pub dead-some : from ≤ to → front_of (slice from to v) ≡ Dead → from < to
  dead-some h e =
      ⊎_elim
      (λ k. absurd {A = from < to}
      (dead_open (sym e ∙ ap (λ (i : ℕ). front_of (slice i to v)) k ∙ ap front_of (slice_empty to v) ∙ front-empty)))
      (λ k. k)
      (eq-or-lt_of_le h)

  -- an open front leaves room for a byte
  pub open_room : from ≤ to → to ≤ length v → front_of (slice from to v) ≡ Open → to + 1 ≤ from + max_frame
  open_room h k e = omega (arith, open_short (slice from to v) e, length-slice from to v k)

  pub feeding-dead-at : from < to → to ≤ length v → front_of (slice from to v) ≡ Dead → feeding_at v n from to ≡ feeding_at v n (from + 1) to
  feeding-dead-at h k e =
      let s = slice-cons from to v 0 h k in
      ap (λ (l : List ℕ). feeding_call (drop to v) l from (to - n)) s
      ∙ feeding-dead (drop to v) (get_or v from 0) (slice (suc from) to v) from (to - n) (sym (ap front_of s) ∙ e)
      ∙ ap (λ (i : ℕ). feeding_call (drop to v) (slice i to v) (from + 1) (to - n)) (sym (add-one from))

  pub feeding_open_at : from ≤ to → to < length v → n ≤ to → front_of (slice from to v) ≡ Open
      → feeding_at v n from to ≡ feeding_at v n from (to + 1)
  feeding_open_at h k j e =
      let taken : to - n + 1 ≡ to + 1 - n = omega arith in
      ap (λ (l : List ℕ). feeding_call l (slice from to v) from (to - n)) (drop-cons v to 0 k)
      ∙ feeding_open (get_or v to 0) (drop (suc to) v) (slice from to v) from (to - n) e
      ∙ ap₂ (λ (i : ℕ) (l : List ℕ). feeding_call (drop i v) l from (to - n + 1)) (sym (add-one to)) (sym (slice_snoc from to v h k))
      ∙ ap (λ (t : ℕ). feeding_call (drop (to + 1) v) (slice from (to + 1) v) from t) taken

  pub feeding-whole-at : front_of (slice from to v) ≡ Whole → feeding_at v n from to ≡ with_frame (to - n) (slice from to v) from
  feeding-whole-at e = feeding-whole (drop to v) (slice from to v) from (to - n) e

  pub feeding-ends-at : to ≡ length v → front_of (slice from to v) ≡ Open
      → feeding_at v n from to ≡ without_frame (to - n) (slice from to v) from
  feeding-ends-at k e =
      ap (λ (l : List ℕ). feeding_call l (slice from to v) from (to - n)) (ap (λ (i : ℕ). drop i v) k ∙ drop-length v)
      ∙ feeding-ends (slice from to v) from (to - n) e

-- k bytes at once, where the front stays open up to the last of them
pub feeding-waits-at :
    (v : List ℕ) (n from to k : ℕ) → from ≤ to → to + k ≤ length v → n ≤ to
    → ((t : ℕ) → to ≤ t → t < to + k → front_of (slice from t v) ≡ Open)
    → feeding_at v n from to ≡ feeding_at v n from (to + k)
feeding-waits-at v n from to zero h j l stays = let e : to ≡ to + 0 = omega arith in ap (feeding_at v n from) e
feeding-waits-at v n from to (suc k) h j l stays =
    let e : to + k + 1 ≡ to + suc k = omega arith in
    feeding-waits-at v n from to k h (omega arith) l (λ t i m. stays t i (omega arith))
    ∙ feeding_open_at v n from (to + k) (omega arith) (omega arith) (omega arith) (stays (to + k) (omega arith) (omega arith))
    ∙ ap (feeding_at v n from) e

-- they have room
pub waits-room :
    (v : List ℕ) (n from to k : ℕ) → from ≤ to → 0 < k → to + k ≤ length v
    → ((t : ℕ) → to ≤ t → t < to + k → front_of (slice from t v) ≡ Open)
    → to + k ≤ from + max_frame
waits-room v n from to k h some j stays =
    let last = to + k - 1 in
    omega (arith, open_room v n from last (omega arith) (omega arith) (stays last (omega arith) (omega arith)))

-- ---- a quiet call: all bytes are held, and stand from `from` on

pub to_end : (a : List ℕ) (from to : ℕ) → to ≡ length a → slice from to (a ++ []) ≡ drop from a
to_end a from to e = ap (λ (n : ℕ). slice from n (a ++ [])) e ∙ ap (drop from) (take-append_seam a [])

pub quiet-drops-at :
    (a : List ℕ) (from : ℕ) → from < length a → is_whole (front_of (drop from a)) ≡ false
    → quiet_call (drop from a) from ≡ quiet_call (drop (from + 1) a) (from + 1)
quiet-drops-at a from k e =
    let s = drop-cons a from 0 k in
    ap (λ (l : List ℕ). quiet_call l from) s
    ∙ quiet-drops (get_or a from 0) (drop (suc from) a) from (ap (λ (l : List ℕ). is_whole (front_of l)) (sym s) ∙ e)
    ∙ ap (λ (i : ℕ). quiet_call (drop i a) (from + 1)) (sym (add-one from))

-- a result of the call by what is held, and by where the scan stands
pub quiet_end_at : (a : List ℕ) (from : ℕ) (end : ℕ → List ℕ → ℕ → CallResult)
    → end 0 (drop from a) from ≡ end (length a - length a) (slice from (length a) (a ++ [])) from
quiet_end_at a from end =
    let none : ◌≡◌ {A = ℕ} 0 (length a - length a) = omega arith in
    ap₂ (λ (t : ℕ) (h : List ℕ). end t h from) none (sym (to_end a from (length a) refl))
