-- An open front stays open until the bytes of its next test are there. Assumes nothing.
use Rattle.std.proofs.Common.{◌≡◌, ℕ, ◌+◌, ◌-◌, ◌<◌, ◌≤◌, List, length, get_or, sym, ◌∙◌, ap₂, arith}
use lib.Seq.{slice, length-slice}
use Rattle.fronts.specs.declared.front.Front.TheVariants.{Open}
use Rattle.fronts.specs.Frame.{head1, head2, header_size, frame_size, length_at}
use Rattle.sequences.specs.Numbers.{number16}
use Rattle.fronts.specs.Fronts.{front_of, Missing}
use Rattle.sequences.proofs.Slices.{get_or-slice}
use Rattle.fronts.proofs.Fronts.{open_none, open_head2, open_high, open_length, open_sum, open_first, open_second}
use Rattle.fronts.proofs.Fronts.{open_high_small, open_length_small, open_unsummed}

-- the part of v from `from` on, open at `to`, seen at t
module _ (v : List ℕ) (from to t : ℕ) (h : from ≤ to) (k : to ≤ t) (j : t ≤ length v) (e : front_of (slice from to v) ≡ Open) where
  abbrev s : List ℕ
  s = slice from to v

  abbrev w : List ℕ
  w = slice from t v

  size : length s ≡ to - from
  size = length-slice from to v (omega arith)

  more : length w ≡ t - from
  more = length-slice from t v j

  same : (i : ℕ) → from + i < to → get_or w i 0 ≡ get_or s i 0
  same i l = get_or-slice from t i v (omega arith) ∙ sym (get_or-slice from to i v l)

  -- the bytes of each test, from where they are there
  first : from + 1 ≤ to → get_or w 0 0 ≡ head1
  first l = same 0 (omega arith) ∙ open_first s e (omega (arith, size))

  second : from + 2 ≤ to → get_or w 1 0 ≡ head2
  second l = same 1 (omega arith) ∙ open_second s e (omega (arith, size))

  high : from + 5 ≤ to → get_or w 4 0 ≤ 2
  high l = omega (arith, same 4 (omega arith), open_high_small s e (omega (arith, size)))

  length-same : from + header_size ≤ to → length_at w ≡ length_at s
  length-same l = ap₂ number16 (same 4 (omega arith)) (same 5 (omega arith))

  -- one law for each test
  stays-none : t < from + 1 → front_of w ≡ Open
  stays-none l = open_none w (omega (arith, more))

  stays-head2 : from + 1 ≤ to → t < from + 2 → front_of w ≡ Open
  stays-head2 i l = open_head2 w (first i) (omega (arith, more)) (omega (arith, more))

  stays-high : from + 2 ≤ to → t < from + 5 → front_of w ≡ Open
  stays-high i l = open_high w (first (omega arith)) (second i) (omega (arith, more)) (omega (arith, more))

  stays-length : from + 5 ≤ to → t < from + 6 → front_of w ≡ Open
  stays-length i l = open_length w (first (omega arith)) (second (omega arith)) (high i) (omega (arith, more)) (omega (arith, more))

  stays-sum : from + header_size ≤ to → t < from + frame_size (length_at s) → front_of w ≡ Open
  stays-sum i l =
      let m = length-same i in
      let n = open_length_small s e (omega (arith, size)) in
      open_sum w (first (omega arith)) (second (omega arith)) (high (omega arith)) (omega (arith, more)) (omega arith) (omega (arith, more))

-- how many bytes each test is short of
module _ (v : List ℕ) (from to : ℕ) (h : from ≤ to) (k : to ≤ length v) (e : front_of (slice from to v) ≡ Open) where
  pub missing-head1 : to - from < 1 → Missing v from to (1 - (to - from))
  missing-head1 l = record { some = omega arith; undecided = λ t i m j. stays-none v from to t h i j e (omega arith) }

  pub missing-head2 : 1 ≤ to - from → to - from < 2 → Missing v from to (2 - (to - from))
  missing-head2 n l = record { some = omega arith; undecided = λ t i m j. stays-head2 v from to t h i j e (omega arith) (omega arith) }

  pub missing-high : 2 ≤ to - from → to - from < 5 → Missing v from to (5 - (to - from))
  missing-high n l = record { some = omega arith; undecided = λ t i m j. stays-high v from to t h i j e (omega arith) (omega arith) }

  pub missing-length : 5 ≤ to - from → to - from < 6 → Missing v from to (6 - (to - from))
  missing-length n l = record { some = omega arith; undecided = λ t i m j. stays-length v from to t h i j e (omega arith) (omega arith) }

  pub unsummed : header_size ≤ to - from → to - from < frame_size (length_at (slice from to v))
  unsummed n = omega (arith, length-slice from to v k, open_unsummed (slice from to v) e (omega (arith, length-slice from to v k)))

  pub missing-sum : header_size ≤ to - from → Missing v from to (frame_size (length_at (slice from to v)) - (to - from))
  missing-sum n =
      let f = unsummed n in
      record { some = omega arith; undecided = λ t i m j. stays-sum v from to t h i j e (omega arith) (omega arith) }
