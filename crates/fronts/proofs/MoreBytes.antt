-- Bytes behind a decided front change nothing, and an undecided front is short. Assumes nothing.
use Rattle.std.proofs.Common.{◌≡◌, ℕ, ◌+◌, ◌<◌, ◌≤◌, Bool, true, false, eqb, leb, List, ◌++◌, length, get_or, take, drop, sym, refl, ap, ◌∙◌, ap₂, ⊎_elim, arith, length-append, length-drop, leb-true}
use lib.ListN.{get_or-append}
use lib.Seq.{take-append-le, drop-append-le}
use Rattle.fronts.specs.declared.front.Front.{Front}
use Rattle.fronts.specs.declared.front.Front.TheVariants.{Whole, Dead, Open}
use Rattle.fronts.specs.Frame.{head1, head2, max_data, header_size, frame_size, sum_byte, length_at, frame_at}
use Rattle.sequences.specs.Numbers.{number16}
use Rattle.fronts.specs.Fronts.{test, front_of}
use Rattle.sequences.proofs.Orders.{lt_or_le}
use Rattle.fronts.proofs.Fronts.{test_open, test-fails, test-passes, dead_open, whole_open, sum_right, from_sum, from_length}
use Rattle.fronts.proofs.Fronts.{from_high, from_head2, whole-passed}

-- one test: more bytes keep its answer, if they keep its outcome and the answer after it
test-more :
    (need have have' : ℕ) (ok ok' : Bool) (next next' : Front) → have ≤ have' → (need ≤ have → ok' ≡ ok)
    → (need ≤ have → (next ≡ Open → ⊥) → next' ≡ next)
    → (test need have ok next ≡ Open → ⊥) → test need have' ok' next' ≡ test need have ok next
test-more need have have' ok ok' next next' l p q n =
    ⊎_elim
    (λ k. absurd {A = test need have' ok' next' ≡ test need have ok next} (n (test_open need have ok next k)))
    (λ k. go ok refl k)
    (lt_or_le have need)
  where
    go : (x : Bool) → ok ≡ x → need ≤ have → test need have' ok' next' ≡ test need have ok next
    go true e k =
        test-passes need have' ok' next' (omega arith) (p k ∙ e)
        ∙ q k (λ w. n (test-passes need have ok next k e ∙ w))
        ∙ sym (test-passes need have ok next k e)
    go false e k = test-fails need have' ok' next' (omega arith) (p k ∙ e) ∙ sym (test-fails need have ok next k e)

module _ (h r : List ℕ) where
  size-more : length h ≤ length (h ++ r)
  size-more = omega (arith, length-append h r)

  pub length_more : header_size ≤ length h → length_at (h ++ r) ≡ length_at h
  length_more k = ap₂ number16 (get_or-append h r 0 4 (omega arith)) (get_or-append h r 0 5 (omega arith))

  sum_right-more : header_size ≤ length h → frame_size (length_at h) ≤ length h → sum_right (h ++ r) ≡ sum_right h
  sum_right-more k l =
      let at = header_size + length_at h in
      ap (λ (j : ℕ). eqb (get_or (h ++ r) (header_size + j) 0) (sum_byte (take (header_size + j) (h ++ r)))) (length_more k)
      ∙ ap₂ (λ (x : ℕ) (s : List ℕ). eqb x (sum_byte s)) (get_or-append h r 0 at (omega arith)) (take-append-le at h r (omega arith))

  from_sum-more : header_size ≤ length h → (from_sum h ≡ Open → ⊥) → from_sum (h ++ r) ≡ from_sum h
  from_sum-more k n =
      ap (λ (j : ℕ). test (frame_size j) (length (h ++ r)) (sum_right (h ++ r)) Whole) (length_more k)
      ∙ test-more (frame_size (length_at h)) (length h) (length (h ++ r)) (sum_right h) (sum_right (h ++ r)) Whole Whole size-more
      (sum_right-more k) (λ l _. refl) n

  from_length-more : 5 ≤ length h → (from_length h ≡ Open → ⊥) → from_length (h ++ r) ≡ from_length h
  from_length-more k n =
      test-more 6 (length h) (length (h ++ r)) (leb (length_at h) max_data) (leb (length_at (h ++ r)) max_data) (from_sum h)
      (from_sum (h ++ r)) size-more
      (λ l. ap (λ (x : ℕ). leb x max_data) (length_more l)) from_sum-more n

  from_high-more : (from_high h ≡ Open → ⊥) → from_high (h ++ r) ≡ from_high h
  from_high-more n =
      test-more 5 (length h) (length (h ++ r)) (leb (get_or h 4 0) 2) (leb (get_or (h ++ r) 4 0) 2) (from_length h)
      (from_length (h ++ r)) size-more
      (λ l. ap (λ (x : ℕ). leb x 2) (get_or-append h r 0 4 l)) from_length-more n

  from_head2-more : (from_head2 h ≡ Open → ⊥) → from_head2 (h ++ r) ≡ from_head2 h
  from_head2-more n =
      test-more 2 (length h) (length (h ++ r)) (eqb (get_or h 1 0) head2) (eqb (get_or (h ++ r) 1 0) head2) (from_high h)
      (from_high (h ++ r)) size-more
      (λ l. ap (λ (x : ℕ). eqb x head2) (get_or-append h r 0 1 l)) (λ _. from_high-more) n

  -- the law
  pub front-more : (front_of h ≡ Open → ⊥) → front_of (h ++ r) ≡ front_of h
  unfolding front_of
  front-more n =
      test-more 1 (length h) (length (h ++ r)) (eqb (get_or h 0 0) head1) (eqb (get_or (h ++ r) 0 0) head1) (from_head2 h)
      (from_head2 (h ++ r)) size-more
      (λ l. ap (λ (x : ℕ). eqb x head1) (get_or-append h r 0 0 l)) (λ _. from_head2-more) n

  pub whole-more : front_of h ≡ Whole → front_of (h ++ r) ≡ Whole
  whole-more e = front-more (λ w. whole_open (sym e ∙ w)) ∙ e

  pub dead-more : front_of h ≡ Dead → front_of (h ++ r) ≡ Dead
  dead-more e = front-more (λ w. dead_open (sym e ∙ w)) ∙ e

  -- nor do they change the frame
  pub frame-more : front_of h ≡ Whole → frame_at (h ++ r) ≡ frame_at h
  unfolding frame_at
  frame-more e =
      let k = (whole-passed h e).there in
      let n = length_more (omega arith) in
      let b2 = get_or-append h r 0 2 (omega arith) in
      let b3 = get_or-append h r 0 3 (omega arith) in
      let d : take (length_at (h ++ r)) (drop header_size (h ++ r)) ≡ take (length_at h) (drop header_size h) =
      ap (λ (i : ℕ). take i (drop header_size (h ++ r))) n
      ∙ ap (take (length_at h)) (drop-append-le header_size h r (omega arith))
      ∙ take-append-le (length_at h) (drop header_size h) r (omega (arith, length-drop header_size h)) in
      cc

test_not_open : (need have : ℕ) (ok : Bool) (next : Front) → need ≤ have → (ok ≡ true → next ≡ Open → ⊥) → test need have ok next ≡ Open → ⊥
test_not_open need have true next h k e = k refl (sym (test-passes need have true next h refl) ∙ e)
test_not_open need have false next h k e = dead_open (sym (test-fails need have false next h refl) ∙ e)

-- an open front is shorter than the longest frame
pub open_short : (s : List ℕ) → front_of s ≡ Open → length s < frame_size max_data
unfolding front_of
open_short s e = ⊎_elim (λ k. k) (λ h. absurd {A = length s < frame_size max_data} (decided h)) (lt_or_le (length s) (frame_size max_data))
  where
    decided : frame_size max_data ≤ length s → ⊥
    decided h =
        test_not_open 1 (length s) (eqb (get_or s 0 0) head1) (from_head2 s) (omega arith)
        (λ _. test_not_open 2 (length s) (eqb (get_or s 1 0) head2) (from_high s) (omega arith)
        (λ _. test_not_open 5 (length s) (leb (get_or s 4 0) 2) (from_length s) (omega arith)
        (λ _. test_not_open 6 (length s) (leb (length_at s) max_data) (from_sum s) (omega arith)
        (λ l. test_not_open (frame_size (length_at s)) (length s) (sum_right s) Whole (omega (arith, leb-true (length_at s) max_data l))
        (λ _. whole_open))))) e
