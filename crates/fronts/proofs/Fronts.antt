-- What `front_of` says at each way out of its tests, and what each of its answers says of the tests. Assumes nothing.
use Rattle.std.proofs.Common.{◌≡◌, ℕ, ◌+◌, ◌<◌, ◌≤◌, Bool, true, false, eqb, leb, ◌⊎◌, List, [], length, get_or, take, sym, refl, ◌∙◌, inl, inr, ⊎_elim, arith, eq-eqb, ne_eqb, eqb-true, le-leb, leb-false, leb-true}
use borrow.Author.Tests.{lt-leb}
use Rattle.fronts.specs.declared.front.Front.{Front}
use Rattle.fronts.specs.declared.front.Front.TheVariants.{Whole, Dead, Open}
use Rattle.fronts.specs.Frame.{head1, head2, max_data, header_size, frame_size, sum_byte, length_at}
use Rattle.fronts.specs.Fronts.{test, front_of, is_whole}

-- ---- one test

pub test_open : (need have : ℕ) (passes : Bool) (next : Front) → have < need → test need have passes next ≡ Open
test_open need have passes next h = rw (lt-leb need have h)

pub test-fails : (need have : ℕ) (passes : Bool) (next : Front) → need ≤ have → passes ≡ false → test need have passes next ≡ Dead
test-fails need have passes next h e = rw (le-leb need have h, e)

pub test-passes : (need have : ℕ) (passes : Bool) (next : Front) → need ≤ have → passes ≡ true → test need have passes next ≡ next
test-passes need have passes next h e = rw (le-leb need have h, e)

-- two fronts that differ
pub dead_open : Dead ≡ Open → ⊥
dead_open e = let z : ◌≡◌ {A = ℕ} 0 1 = cc in omega arith

pub whole_open : Whole ≡ Open → ⊥
whole_open e = let z : ◌≡◌ {A = ℕ} 0 1 = cc in omega arith

pub dead-whole : Dead ≡ Whole → ⊥
dead-whole e = let z : ◌≡◌ {A = ℕ} 0 1 = cc in omega arith

-- a test that leaves the front whole was passed
pub test-whole : (need have : ℕ) (passes : Bool) (next : Front) → test need have passes next ≡ Whole
    → (need ≤ have) × ((passes ≡ true) × (next ≡ Whole))
test-whole need have passes next e = go (leb need have) passes refl refl
  where
    go : (x y : Bool) → leb need have ≡ x → passes ≡ y → (need ≤ have) × ((passes ≡ true) × (next ≡ Whole))
    go true true p q = (leb-true need have p, (q, sym (test-passes need have passes next (leb-true need have p) q) ∙ e))
    go true false p q = absurd (dead-whole (sym (test-fails need have passes next (leb-true need have p) q) ∙ e))
    go false y p q = absurd (whole_open (sym e ∙ test_open need have passes next (leb-false need have p)))

-- a test that leaves the front open lacks bytes, or was passed and a later one does
pub test_is_open : (need have : ℕ) (passes : Bool) (next : Front) → test need have passes next ≡ Open
    → (have < need) ⊎ ((passes ≡ true) × (next ≡ Open))
test_is_open need have passes next e = go (leb need have) passes refl refl
  where
    go : (x y : Bool) → leb need have ≡ x → passes ≡ y → (have < need) ⊎ ((passes ≡ true) × (next ≡ Open))
    go false y p q = inl (leb-false need have p)
    go true true p q = inr (q, sym (test-passes need have passes next (leb-true need have p) q) ∙ e)
    go true false p q = absurd (dead_open (sym (test-fails need have passes next (leb-true need have p) q) ∙ e))

-- so one whose bytes are there was passed
pub test_open_passed : (need have : ℕ) (passes : Bool) (next : Front) → need ≤ have → test need have passes next ≡ Open
    → (passes ≡ true) × (next ≡ Open)
test_open_passed need have passes next h e =
    ⊎_elim (λ k. absurd {A = (passes ≡ true) × (next ≡ Open)} (omega arith)) (λ t. t) (test_is_open need have passes next e)

-- ---- the tests in a row, each with those after it

abbrev pub sum_right : List ℕ → Bool
sum_right s = eqb (get_or s (header_size + length_at s) 0) (sum_byte (take (header_size + length_at s) s))

abbrev pub from_sum : List ℕ → Front
from_sum s = test (frame_size (length_at s)) (length s) (sum_right s) Whole

abbrev pub from_length : List ℕ → Front
from_length s = test 6 (length s) (leb (length_at s) max_data) (from_sum s)

abbrev pub from_high : List ℕ → Front
from_high s = test 5 (length s) (leb (get_or s 4 0) 2) (from_length s)

abbrev pub from_head2 : List ℕ → Front
from_head2 s = test 2 (length s) (eqb (get_or s 1 0) head2) (from_high s)

-- Each answer of `front_of s`, in the order of the tests.
module _ (s : List ℕ) where
  pub open_none : length s < 1 → front_of s ≡ Open
  unfolding front_of
  open_none h = test_open 1 (length s) (eqb (get_or s 0 0) head1) (from_head2 s) h

  pub dead-head1 : 1 ≤ length s → (get_or s 0 0 ≡ head1 → ⊥) → front_of s ≡ Dead
  unfolding front_of
  dead-head1 h n = test-fails 1 (length s) (eqb (get_or s 0 0) head1) (from_head2 s) h (ne_eqb (get_or s 0 0) head1 n)

  past_head1 : 1 ≤ length s → get_or s 0 0 ≡ head1 → front_of s ≡ from_head2 s
  unfolding front_of
  past_head1 h e = test-passes 1 (length s) (eqb (get_or s 0 0) head1) (from_head2 s) h (eq-eqb (get_or s 0 0) head1 e)

  module _ (e : get_or s 0 0 ≡ head1) where
    pub open_head2 : 1 ≤ length s → length s < 2 → front_of s ≡ Open
    open_head2 h k = past_head1 h e ∙ test_open 2 (length s) (eqb (get_or s 1 0) head2) (from_high s) k

    pub dead-head2 : 2 ≤ length s → (get_or s 1 0 ≡ head2 → ⊥) → front_of s ≡ Dead
    dead-head2 h n =
        past_head1 (omega arith) e ∙ test-fails 2 (length s) (eqb (get_or s 1 0) head2) (from_high s) h (ne_eqb (get_or s 1 0) head2 n)

    past_head2 : 2 ≤ length s → get_or s 1 0 ≡ head2 → front_of s ≡ from_high s
    past_head2 h f =
        past_head1 (omega arith) e ∙ test-passes 2 (length s) (eqb (get_or s 1 0) head2) (from_high s) h (eq-eqb (get_or s 1 0) head2 f)

    module _ (f : get_or s 1 0 ≡ head2) where
      pub open_high : 2 ≤ length s → length s < 5 → front_of s ≡ Open
      open_high h k = past_head2 h f ∙ test_open 5 (length s) (leb (get_or s 4 0) 2) (from_length s) k

      pub dead-high : 5 ≤ length s → 2 < get_or s 4 0 → front_of s ≡ Dead
      dead-high h n = past_head2 (omega arith) f ∙ test-fails 5 (length s) (leb (get_or s 4 0) 2) (from_length s) h (lt-leb (get_or s 4 0) 2 n)

      past_high : 5 ≤ length s → get_or s 4 0 ≤ 2 → front_of s ≡ from_length s
      past_high h g = past_head2 (omega arith) f ∙ test-passes 5 (length s) (leb (get_or s 4 0) 2) (from_length s) h (le-leb (get_or s 4 0) 2 g)

      module _ (g : get_or s 4 0 ≤ 2) where
        pub open_length : 5 ≤ length s → length s < 6 → front_of s ≡ Open
        open_length h k = past_high h g ∙ test_open 6 (length s) (leb (length_at s) max_data) (from_sum s) k

        pub dead-length : 6 ≤ length s → max_data < length_at s → front_of s ≡ Dead
        dead-length h n =
            past_high (omega arith) g ∙ test-fails 6 (length s) (leb (length_at s) max_data) (from_sum s) h (lt-leb (length_at s) max_data n)

        module _ (h : 6 ≤ length s) (l : length_at s ≤ max_data) where
          past_length : front_of s ≡ from_sum s
          past_length =
              past_high (omega arith) g ∙ test-passes 6 (length s) (leb (length_at s) max_data) (from_sum s) h (le-leb (length_at s) max_data l)

          pub open_sum : length s < frame_size (length_at s) → front_of s ≡ Open
          open_sum k = past_length ∙ test_open (frame_size (length_at s)) (length s) (sum_right s) Whole k

          pub dead-sum : frame_size (length_at s) ≤ length s →
              (get_or s (header_size + length_at s) 0 ≡ sum_byte (take (header_size + length_at s) s) → ⊥) → front_of s ≡ Dead
          dead-sum k n = past_length ∙ test-fails (frame_size (length_at s)) (length s) (sum_right s) Whole k (ne_eqb _ _ n)

          pub whole_sum : frame_size (length_at s) ≤ length s
              → get_or s (header_size + length_at s) 0 ≡ sum_byte (take (header_size + length_at s) s) → front_of s ≡ Whole
          whole_sum k n = past_length ∙ test-passes (frame_size (length_at s)) (length s) (sum_right s) Whole k (eq-eqb _ _ n)

-- ---- what the answers say

pub front-empty : front_of [] ≡ Open
unfolding front_of
front-empty = refl

pub is-whole : (f : Front) → is_whole f ≡ true → f ≡ Whole
is-whole Whole e = refl
is-whole Dead e = let z : ◌≡◌ {A = ℕ} 0 1 = cc in absurd (omega arith)
is-whole Open e = let z : ◌≡◌ {A = ℕ} 0 1 = cc in absurd (omega arith)

-- the tests that a whole front has passed
pub record Passed (s : List ℕ) : Type 0 where
  pub first : get_or s 0 0 ≡ head1
  pub second : get_or s 1 0 ≡ head2
  pub small : length_at s ≤ max_data
  pub there : frame_size (length_at s) ≤ length s
  pub sum : get_or s (header_size + length_at s) 0 ≡ sum_byte (take (header_size + length_at s) s)

pub whole-passed : (s : List ℕ) → front_of s ≡ Whole → Passed s
unfolding front_of
whole-passed s e =
    let t2 = test-whole 1 (length s) (eqb (get_or s 0 0) head1) (from_head2 s) e in
    let t3 = test-whole 2 (length s) (eqb (get_or s 1 0) head2) (from_high s) t2.1.1 in
    let t4 = test-whole 5 (length s) (leb (get_or s 4 0) 2) (from_length s) t3.1.1 in
    let t5 = test-whole 6 (length s) (leb (length_at s) max_data) (from_sum s) t4.1.1 in
    let t6 = test-whole (frame_size (length_at s)) (length s) (sum_right s) Whole t5.1.1 in
    record {
      first = eqb-true (get_or s 0 0) head1 t2.1.0;
      second = eqb-true (get_or s 1 0) head2 t3.1.0;
      small = leb-true (length_at s) max_data t5.1.0;
      there = t6.0;
      sum = eqb-true _ _ t6.1.0;
    }

pub passed-whole : (s : List ℕ) → Passed s → front_of s ≡ Whole
passed-whole s p =
    let l = p.small in
    let k = p.there in
    whole_sum s p.first p.second (omega arith) (omega arith) l k p.sum

-- the tests that an open front has passed, each where its bytes are there
module _ (s : List ℕ) (e : front_of s ≡ Open) where
  open_past_head1 : 1 ≤ length s → (eqb (get_or s 0 0) head1 ≡ true) × (from_head2 s ≡ Open)
  unfolding front_of
  open_past_head1 h = test_open_passed 1 (length s) (eqb (get_or s 0 0) head1) (from_head2 s) h e

  open_past_head2 : 2 ≤ length s → (eqb (get_or s 1 0) head2 ≡ true) × (from_high s ≡ Open)
  open_past_head2 h = test_open_passed 2 (length s) (eqb (get_or s 1 0) head2) (from_high s) h (open_past_head1 (omega arith)).1

  open_past_high : 5 ≤ length s → (leb (get_or s 4 0) 2 ≡ true) × (from_length s ≡ Open)
  open_past_high h = test_open_passed 5 (length s) (leb (get_or s 4 0) 2) (from_length s) h (open_past_head2 (omega arith)).1

  open_past_length : 6 ≤ length s → (leb (length_at s) max_data ≡ true) × (from_sum s ≡ Open)
  open_past_length h = test_open_passed 6 (length s) (leb (length_at s) max_data) (from_sum s) h (open_past_high (omega arith)).1

  pub open_first : 1 ≤ length s → get_or s 0 0 ≡ head1
  open_first h = eqb-true (get_or s 0 0) head1 (open_past_head1 h).0

  pub open_second : 2 ≤ length s → get_or s 1 0 ≡ head2
  open_second h = eqb-true (get_or s 1 0) head2 (open_past_head2 h).0

  pub open_high_small : 5 ≤ length s → get_or s 4 0 ≤ 2
  open_high_small h = leb-true (get_or s 4 0) 2 (open_past_high h).0

  pub open_length_small : 6 ≤ length s → length_at s ≤ max_data
  open_length_small h = leb-true (length_at s) max_data (open_past_length h).0

  -- and the sum is not there yet
  pub open_unsummed : 6 ≤ length s → length s < frame_size (length_at s)
  open_unsummed h =
      ⊎_elim (λ k. k) (λ t. absurd {A = length s < frame_size (length_at s)} (whole_open t.1))
      (test_is_open (frame_size (length_at s)) (length s) (sum_right s) Whole (open_past_length h).1)
