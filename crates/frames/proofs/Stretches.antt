-- A stretch of bytes at none of which a frame begins: a call of live reading drops it whole. Assumes nothing.
use mathlib.Core.Path.{◌≡◌, refl, sym, ap, ◌∙◌, subst}
use mathlib.Core.Bool.{Bool, true, false}
use mathlib.Core.List.{List, ◌++◌}
use mathlib.Core.Logic.{◌⊎◌, inl, inr, ⊎_elim}
use Prim.Native.Nat.{ℕ, zero, suc, ◌+◌, ◌-◌, ◌≤◌, ◌<◌}
use native.Mathlib.Nat.{eq-or-lt_of_le}
use native.Mathlib.Omega.{arith}
use borrow.Author.Tests.{eqb-true, eqb-false}
use lib.Dec.{eqb}
use lib.ListN.{length, drop, get_or, get_or-append}
use lib.Seq.{slice, slice_empty, length-slice, take-length}
use Rattle.fronts.specs.declared.front.Front.TheVariants.{Dead, Open}
use Rattle.fronts.specs.Frame.{head1, head2}
use Rattle.fronts.specs.Fronts.{front_of, is_whole}
use Rattle.frames.specs.LiveReading.{quiet_call}
use Rattle.frames.specs.Scans.{Stray, Headless}
use Rattle.sequences.proofs.Orders.{lt_or_le}
use Rattle.sequences.proofs.Slices.{get_or-right, get_or-slice, get_or-slice-first}
use Rattle.fronts.proofs.Fronts.{front-empty, dead-head1, open_head2, dead-head2}
use Rattle.frames.proofs.Positions.{feeding_at, feeding-dead-at, feeding_open_at, quiet-drops-at}

-- ---- how a search goes on

pub headless-none : (v : List ℕ) (from to : ℕ) → from ≤ to → Headless v from to from
headless-none v from to h = record { ordered = omega arith; within = h; none = λ i p q. absurd (omega arith) }

pub headless-next : (v : List ℕ) (from to i : ℕ) → Headless v from to i → i < to → Stray v to i → Headless v from to (i + 1)
headless-next v from to i h l s = record { ordered = omega (arith, h.ordered); within = omega arith; none = none }
  where
    none : (j : ℕ) → from ≤ j → j < i + 1 → Stray v to j
    none j p q =
        let k : j ≤ i = omega arith in
        ⊎_elim (λ e. subst (Stray v to) (sym e) s) (λ less. h.none j p less) (eq-or-lt_of_le k)

-- one stretch behind another
pub headless_join : (v : List ℕ) (from to m r : ℕ) → Headless v from to m → Headless v m to r → Headless v from to r
headless_join v from to m r h k =
    let o = k.ordered in
    record { ordered = omega (arith, h.ordered); within = k.within; none = none }
  where
    none : (j : ℕ) → from ≤ j → j < r → Stray v to j
    none j p q = ⊎_elim (λ less. h.none j p less) (λ more. k.none j more q) (lt_or_le j m)

-- a stretch that is seen farther
pub headless_farther : (v : List ℕ) (from to end r : ℕ) → to ≤ end → Headless v from to r → Headless v from end r
headless_farther v from to end r l h =
    let k = h.within in
    record {
      ordered = h.ordered;
      within = omega arith;
      none = λ i p q e. let s = h.none i p q e in let two =
          s.0 in (omega arith, s.1);
    }

-- ---- of two lists read as one

module _ (a b : List ℕ) (from r : ℕ) where
  pub headless-first : Headless a from (length a) r → Headless (a ++ b) from (length a + length b) r
  headless-first h = let l = h.within in record { ordered = h.ordered; within = omega arith; none = none }
    where
      none : (i : ℕ) → from ≤ i → i < r → Stray (a ++ b) (length a + length b) i
      none i p q e =
          let l = h.within in
          let s = h.none i p q (sym (get_or-append a b 0 i (omega arith)) ∙ e) in
          let k = s.0 in
          (omega arith, λ f. s.1 (sym (get_or-append a b 0 (i + 1) k) ∙ f))

  pub headless-second : length a ≤ from → Headless b (from - length a) (length b) r
      → Headless (a ++ b) from (length a + length b) (length a + r)
  headless-second k h = let o = h.ordered in let l = h.within in record { ordered = omega arith; within = omega arith; none = none }
    where
      none : (i : ℕ) → from ≤ i → i < length a + r → Stray (a ++ b) (length a + length b) i
      none i p q e =
          let s = h.none (i - length a) (omega arith) (omega arith) (sym (get_or-right a b i (omega arith)) ∙ e) in
          let l = s.0 in
          let n : i + 1 - length a ≡ i - length a + 1 = omega arith in
          (omega arith, λ f. s.1 (sym (get_or-right a b (i + 1) (omega arith) ∙ ap (λ (j : ℕ). get_or b j 0) n) ∙ f))

-- ---- a stray place

-- the place i of v, with the bytes up to t there
module _ (v : List ℕ) (i t : ℕ) (h : i < t) (l : t ≤ length v) where
  size : length (slice i t v) ≡ t - i
  size = length-slice i t v l

  first-dead : (get_or v i 0 ≡ head1 → ⊥) → front_of (slice i t v) ≡ Dead
  first-dead n = dead-head1 (slice i t v) (omega (arith, size)) (λ e. n (sym (get_or-slice-first i t v h) ∙ e))

  module _ (e : get_or v i 0 ≡ head1) where
    first_open : t < i + 2 → front_of (slice i t v) ≡ Open
    first_open k = open_head2 (slice i t v) (get_or-slice-first i t v h ∙ e) (omega (arith, size)) (omega (arith, size))

    second-dead : i + 2 ≤ t → (get_or v (i + 1) 0 ≡ head2 → ⊥) → front_of (slice i t v) ≡ Dead
    second-dead k n =
        dead-head2 (slice i t v) (get_or-slice-first i t v h ∙ e) (omega (arith, size)) (λ f. n (sym (get_or-slice i t 1 v (omega arith)) ∙ f))

head_or_other : (x : ℕ) → (x ≡ head1) ⊎ (x ≡ head1 → ⊥)
head_or_other x = go (eqb x head1) refl
  where
    go : (b : Bool) → eqb x head1 ≡ b → (x ≡ head1) ⊎ (x ≡ head1 → ⊥)
    go true e = inl (eqb-true x head1 e)
    go false e = inr (eqb-false x head1 e)

-- ---- a feeding call

-- where the held bytes end once the front at i is looked at: behind its first byte at least, where there is one
abbrev reach : List ℕ → ℕ → ℕ → ℕ
reach v to i = to + (i + 1 - (i + 1 - length v) - to)

-- the larger of two, and of that and a larger one still
larger_again : (to y x : ℕ) → y ≤ x → to + (y - to) + (x - (to + (y - to))) ≡ to + (x - to)
larger_again to y x h = omega arith

reach-again : (v : List ℕ) (to i : ℕ) → i < length v → reach v (reach v to i) (i + 1) ≡ reach v to (i + 1)
reach-again v to i h =
    let now = i + 1 - (i + 1 - length v) in
    let next = i + 1 + 1 - (i + 1 + 1 - length v) in
    larger_again to now next (omega arith)

module _ (v : List ℕ) (n : ℕ) where
  reached : (i to : ℕ) → i ≤ to → to ≤ length v → n ≤ to → feeding_at v n i to ≡ feeding_at v n i (reach v to i)
  reached i to h l m = ⊎_elim same less (lt_or_le i to)
    where
      same : i < to → feeding_at v n i to ≡ feeding_at v n i (reach v to i)
      same k = let e : to ≡ reach v to i = omega arith in ap (feeding_at v n i) e

      less : to ≤ i → feeding_at v n i to ≡ feeding_at v n i (reach v to i)
      less k =
          let e : i ≡ to = omega arith in
          let undecided : front_of (slice i to v) ≡ Open = ap (λ (j : ℕ). front_of (slice j to v)) e ∙ ap front_of (slice_empty to v)
          ∙ front-empty in
          ⊎_elim
          (λ more. feeding_open_at v n i to h more m undecided ∙ ap (feeding_at v n i) (let f : to + 1 ≡ reach v to i = omega arith in f))
          (λ end. ap (feeding_at v n i) (let f : to ≡ reach v to i = omega arith in f))
          (lt_or_le to (length v))

  -- a stray place is dropped, however many of its bytes are held
  module _ (end i to : ℕ) (h : i < to) (l : to ≤ length v) (m : n ≤ to) (w : end ≤ length v) (s : Stray v end i) where
    loses : (t : ℕ) → to ≤ t → t ≤ reach v to (i + 1) → front_of (slice i t v) ≡ Dead
        → feeding_at v n i t ≡ feeding_at v n (i + 1) (reach v to (i + 1))
    loses t p q e =
        let f : reach v t (i + 1) ≡ reach v to (i + 1) = omega arith in
        feeding-dead-at v n i t (omega arith) (omega arith) e ∙ reached (i + 1) t (omega arith) (omega arith) (omega arith)
        ∙ ap (feeding_at v n (i + 1)) f

    -- with its second byte taken first, where it is not yet there
    loses-second : get_or v i 0 ≡ head1 → feeding_at v n i to ≡ feeding_at v n (i + 1) (reach v to (i + 1))
    loses-second e = ⊎_elim takes there (lt_or_le to (i + 2))
      where
        two : i + 1 < end
        two = (s e).0

        there : i + 2 ≤ to → feeding_at v n i to ≡ feeding_at v n (i + 1) (reach v to (i + 1))
        there k = loses to (omega arith) (omega arith) (second-dead v i to h l e k (s e).1)

        takes : to < i + 2 → feeding_at v n i to ≡ feeding_at v n (i + 1) (reach v to (i + 1))
        takes k =
            feeding_open_at v n i to (omega arith) (omega (arith, two)) m (first_open v i to h l e k)
            ∙ loses (to + 1) (omega arith) (omega (arith, two))
            (second-dead v i (to + 1) (omega arith) (omega (arith, two)) e (omega arith) (s e).1)

    stray-at : feeding_at v n i to ≡ feeding_at v n (i + 1) (reach v to (i + 1))
    stray-at = ⊎_elim loses-second (λ o. loses to (omega arith) (omega arith) (first-dead v i to h l o)) (head_or_other (get_or v i 0))

  -- k of them
  strays-at :
      (end from to k : ℕ) → from ≤ to → to ≤ length v → n ≤ to → end ≤ length v → from + k ≤ end
      → ((i : ℕ) → from ≤ i → i < from + k → Stray v end i)
      → feeding_at v n from to ≡ feeding_at v n (from + k) (reach v to (from + k))
  strays-at end from to zero h l m w u s =
      let e : from ≡ from + 0 = omega arith in
      reached from to h l m ∙ ap (λ (i : ℕ). feeding_at v n i (reach v to i)) e
  strays-at end from to (suc k) h l m w u s =
      let at = from + k in
      let t = reach v to at in
      let e : at + 1 ≡ from + suc k = omega arith in
      strays-at end from to k h l m w (omega arith) (λ i p q. s i p (omega arith))
      ∙ stray-at end at t (omega arith) (omega arith) (omega arith) w (s at (omega arith) (omega arith))
      ∙ ap (feeding_at v n (at + 1)) (reach-again v to at (omega arith))
      ∙ ap (λ (i : ℕ). feeding_at v n i (reach v to i)) e

-- a whole stretch, held or new; where it goes beyond the held bytes, the new ones up to its end are taken
pub feeding-headless-at :
    (v : List ℕ) (n from to end r : ℕ) → from ≤ to → to ≤ length v → n ≤ to → end ≤ length v → Headless v from end r
    → feeding_at v n from to ≡ feeding_at v n r (to + (r - to))
feeding-headless-at v n from to end r h l m w s =
    let o = s.ordered in
    let u = s.within in
    let t = to + (r - to) in
    let e : from + (r - from) ≡ r = omega arith in
    let f : reach v t r ≡ reach v to r = omega arith in
    strays-at v n end from to (r - from) h l m w (omega arith) (λ i p q. s.none i p (omega arith))
    ∙ ap (λ (i : ℕ). feeding_at v n i (reach v to i)) e
    ∙ sym (reached v n r t (omega arith) (omega arith) (omega arith) ∙ ap (feeding_at v n r) f)

-- ---- a quiet call

quiet-stray-at : (a : List ℕ) (i : ℕ) → i < length a → Stray a (length a) i → quiet_call (drop i a) i ≡ quiet_call (drop (i + 1) a) (i + 1)
quiet-stray-at a i h s = quiet-drops-at a i h (ap is_whole (ap (λ (l : List ℕ). front_of (drop i l)) (sym (take-length a)) ∙ dead))
  where
    dead : front_of (slice i (length a) a) ≡ Dead
    dead =
        ⊎_elim
        (λ e. second-dead a i (length a) h (omega arith) e (let two = (s e).0 in omega arith) (s e).1)
        (λ o. first-dead a i (length a) h (omega arith) o)
        (head_or_other (get_or a i 0))

quiet-strays-at :
    (a : List ℕ) (from k : ℕ) → from + k ≤ length a → ((i : ℕ) → from ≤ i → i < from + k → Stray a (length a) i)
    → quiet_call (drop from a) from ≡ quiet_call (drop (from + k) a) (from + k)
quiet-strays-at a from zero h s = let e : from ≡ from + 0 = omega arith in ap (λ (i : ℕ). quiet_call (drop i a) i) e
quiet-strays-at a from (suc k) h s =
    let at = from + k in
    let e : at + 1 ≡ from + suc k = omega arith in
    quiet-strays-at a from k (omega arith) (λ i p q. s i p (omega arith))
    ∙ quiet-stray-at a at (omega arith) (s at (omega arith) (omega arith))
    ∙ ap (λ (i : ℕ). quiet_call (drop i a) i) e

pub quiet-headless-at : (a : List ℕ) (from r : ℕ) → Headless a from (length a) r → quiet_call (drop from a) from ≡ quiet_call (drop r a) r
quiet-headless-at a from r s =
    let o = s.ordered in
    let e : from + (r - from) ≡ r = omega arith in
    quiet-strays-at a from (r - from) (omega (arith, s.within)) (λ i p q. s.none i p (omega arith))
    ∙ ap (λ (i : ℕ). quiet_call (drop i a) i) e
