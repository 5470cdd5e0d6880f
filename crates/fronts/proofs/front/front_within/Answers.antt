-- `fronts::front::front_within` meets its contract: each return is one way out of the tests of `front_of`. Assumes nothing.
use Rattle.std.proofs.Common.{◌≡◌, ℕ, ◌+◌, ◌-◌, ◌<◌, ◌≤◌, List, ◌++◌, length, get_or, take, drop, sym, ap, ◌∙◌, arith, length-append}
use lib.Seq.{slice, length-slice}
use Rattle.fronts.specs.Frame.{header_size, sum_byte, length_at}
use Rattle.sequences.proofs.Slices.{get_or-slice, get_or-slice-first}
use Rattle.fronts.proofs.Looks.{length_seen, sum-seen}
use Rattle.fronts.proofs.Fronts.{open_none, dead-head1, open_head2, dead-head2, open_high, dead-high, open_length}
use Rattle.fronts.proofs.Fronts.{dead-length, open_sum, dead-sum, whole_sum}
use Rattle.fronts.proofs.front.front_within.Goals as goal

-- what is looked at
module _ (a b : List ℕ) (from to : ℕ) (inside : to ≤ length a + length b) where
  abbrev all : List ℕ
  all = a ++ b

  abbrev seen : List ℕ
  seen = slice from to all

  end : to ≤ length all
  end = omega (arith, length-append a b)

  size : length seen ≡ to - from
  size = length-slice from to all end

  -- the byte at i of what is looked at, which was read as x
  byte : (i x : ℕ) → i < to - from → x ≡ get_or all (from + i) 0 → get_or seen i 0 ≡ x
  byte i x there read = get_or-slice from to i all (omega arith) ∙ sym read

  byte0 : (x : ℕ) → 0 < to - from → x ≡ get_or all from 0 → get_or seen 0 0 ≡ x
  byte0 x there read = get_or-slice-first from to all (omega arith) ∙ sym read

  -- L, past the header
  announced : (L : ℕ) → header_size ≤ to - from → L ≡ length_at (drop from all) → L ≡ length_at seen
  announced L there is = is ∙ length_seen from to all (omega arith)

  -- where the sum byte is compared
  module _ (L : ℕ) (is : L ≡ length_at seen) (there : 7 + L ≤ to - from) where
    last : (x : ℕ) → x ≡ get_or all (from + (header_size + L)) 0 → get_or seen (header_size + length_at seen) 0 ≡ x
    last x read =
        ap (λ (n : ℕ). get_or seen (header_size + n) 0) (sym is) ∙ get_or-slice from to (header_size + L) all (omega arith) ∙ sym read

    sum : (x : ℕ) → x ≡ sum_byte (slice from (from + (header_size + L)) all) → sum_byte (take (header_size + length_at seen) seen) ≡ x
    sum x read =
        ap (λ (n : ℕ). sum_byte (take (header_size + n) seen)) (sym is)
        ∙ sym (sum-seen from to all (header_size + L) (omega arith) end)
        ∙ sym read

pub returns-then-n-lt1 : goal.returns-then-n-lt1
returns-then-n-lt1 c =
    let o = c.args in
    let size = size o.a.now o.b.now o.from o.to c.requires.1 in
    sym (open_none (seen o.a.now o.b.now o.from o.to c.requires.1) (omega arith))

pub byte_at-requires : goal.byte_at-requires
byte_at-requires c = omega arith

pub returns-then-byte_at-ne-HEAD_1 : goal.returns-then-byte_at-ne-HEAD_1
returns-then-byte_at-ne-HEAD_1 c =
    let o = c.args in
    let size = size o.a.now o.b.now o.from o.to c.requires.1 in
    let byte = byte0 o.a.now o.b.now o.from o.to c.requires.1 c.byte_at.result (omega arith) c.byte_at.ensures in
    sym (dead-head1 (seen o.a.now o.b.now o.from o.to c.requires.1) (omega arith) (λ e. c.if-byte_at-ne-HEAD_1.true (sym byte ∙ e)))

pub returns-then-n-lt2 : goal.returns-then-n-lt2
returns-then-n-lt2 c =
    let o = c.args in
    let size = size o.a.now o.b.now o.from o.to c.requires.1 in
    let first = byte0 o.a.now o.b.now o.from o.to c.requires.1 c.byte_at.result (omega arith) c.byte_at.ensures ∙ c.if-byte_at-ne-HEAD_1.false in
    sym (open_head2 (seen o.a.now o.b.now o.from o.to c.requires.1) first (omega arith) (omega arith))

pub byte_at-requires-2 : goal.byte_at-requires-2
byte_at-requires-2 c = omega arith

pub returns-then-byte_at : goal.returns-then-byte_at
returns-then-byte_at c =
    let o = c.args in
    let size = size o.a.now o.b.now o.from o.to c.requires.1 in
    let first = byte0 o.a.now o.b.now o.from o.to c.requires.1 c.byte_at.result (omega arith) c.byte_at.ensures ∙ c.if-byte_at-ne-HEAD_1.false in
    let byte = byte o.a.now o.b.now o.from o.to c.requires.1 1 c.byte_at-2.result (omega arith) c.byte_at-2.ensures in
    sym (dead-head2 (seen o.a.now o.b.now o.from o.to c.requires.1) first (omega arith) (λ e. c.if-byte_at.true (sym byte ∙ e)))

pub returns-then-n-lt5 : goal.returns-then-n-lt5
returns-then-n-lt5 c =
    let o = c.args in
    let size = size o.a.now o.b.now o.from o.to c.requires.1 in
    let first = byte0 o.a.now o.b.now o.from o.to c.requires.1 c.byte_at.result (omega arith) c.byte_at.ensures ∙ c.if-byte_at-ne-HEAD_1.false in
    let second = byte o.a.now o.b.now o.from o.to c.requires.1 1 c.byte_at-2.result (omega arith) c.byte_at-2.ensures ∙ c.if-byte_at.false in
    sym (open_high (seen o.a.now o.b.now o.from o.to c.requires.1) first second (omega arith) (omega arith))

pub byte_at-requires-3 : goal.byte_at-requires-3
byte_at-requires-3 c = omega arith

pub returns-then-byte_at-gt-MAX_HIGH : goal.returns-then-byte_at-gt-MAX_HIGH
returns-then-byte_at-gt-MAX_HIGH c =
    let o = c.args in
    let size = size o.a.now o.b.now o.from o.to c.requires.1 in
    let first = byte0 o.a.now o.b.now o.from o.to c.requires.1 c.byte_at.result (omega arith) c.byte_at.ensures ∙ c.if-byte_at-ne-HEAD_1.false in
    let second = byte o.a.now o.b.now o.from o.to c.requires.1 1 c.byte_at-2.result (omega arith) c.byte_at-2.ensures ∙ c.if-byte_at.false in
    let byte = byte o.a.now o.b.now o.from o.to c.requires.1 4 c.byte_at-3.result (omega arith) c.byte_at-3.ensures in
    sym (dead-high (seen o.a.now o.b.now o.from o.to c.requires.1) first second (omega arith) (omega (arith, byte, c.if-byte_at-gt-MAX_HIGH.true)))

pub returns-then-n-lt-SIZE : goal.returns-then-n-lt-SIZE
returns-then-n-lt-SIZE c =
    let o = c.args in
    let size = size o.a.now o.b.now o.from o.to c.requires.1 in
    let first = byte0 o.a.now o.b.now o.from o.to c.requires.1 c.byte_at.result (omega arith) c.byte_at.ensures ∙ c.if-byte_at-ne-HEAD_1.false in
    let second = byte o.a.now o.b.now o.from o.to c.requires.1 1 c.byte_at-2.result (omega arith) c.byte_at-2.ensures ∙ c.if-byte_at.false in
    let high : get_or (seen o.a.now o.b.now o.from o.to c.requires.1) 4 0 ≤ 2 =
    omega (arith, byte o.a.now o.b.now o.from o.to c.requires.1 4 c.byte_at-3.result (omega arith) c.byte_at-3.ensures, c.if-byte_at-gt-MAX_HIGH.false) in
    sym (open_length (seen o.a.now o.b.now o.from o.to c.requires.1) first second high (omega arith) (omega arith))

pub length_there-len-requires : goal.length_there-len-requires
length_there-len-requires c = omega arith

pub returns-then-len-gt-MAX_DATA : goal.returns-then-len-gt-MAX_DATA
returns-then-len-gt-MAX_DATA c =
    let o = c.args in
    let size = size o.a.now o.b.now o.from o.to c.requires.1 in
    let first = byte0 o.a.now o.b.now o.from o.to c.requires.1 c.byte_at.result (omega arith) c.byte_at.ensures ∙ c.if-byte_at-ne-HEAD_1.false in
    let second = byte o.a.now o.b.now o.from o.to c.requires.1 1 c.byte_at-2.result (omega arith) c.byte_at-2.ensures ∙ c.if-byte_at.false in
    let high : get_or (seen o.a.now o.b.now o.from o.to c.requires.1) 4 0 ≤ 2 =
    omega (arith, byte o.a.now o.b.now o.from o.to c.requires.1 4 c.byte_at-3.result (omega arith) c.byte_at-3.ensures, c.if-byte_at-gt-MAX_HIGH.false) in
    let announced = announced o.a.now o.b.now o.from o.to c.requires.1 c.length_there-len.result (omega arith) c.length_there-len.ensures.0 in
    sym (dead-length (seen o.a.now o.b.now o.from o.to c.requires.1) first second high (omega arith) (omega (arith, announced)))

pub returns-then-n-len : goal.returns-then-n-len
returns-then-n-len c =
    let o = c.args in
    let size = size o.a.now o.b.now o.from o.to c.requires.1 in
    let first = byte0 o.a.now o.b.now o.from o.to c.requires.1 c.byte_at.result (omega arith) c.byte_at.ensures ∙ c.if-byte_at-ne-HEAD_1.false in
    let second = byte o.a.now o.b.now o.from o.to c.requires.1 1 c.byte_at-2.result (omega arith) c.byte_at-2.ensures ∙ c.if-byte_at.false in
    let high : get_or (seen o.a.now o.b.now o.from o.to c.requires.1) 4 0 ≤ 2 =
    omega (arith, byte o.a.now o.b.now o.from o.to c.requires.1 4 c.byte_at-3.result (omega arith) c.byte_at-3.ensures, c.if-byte_at-gt-MAX_HIGH.false) in
    let announced = announced o.a.now o.b.now o.from o.to c.requires.1 c.length_there-len.result (omega arith) c.length_there-len.ensures.0 in
    sym (open_sum (seen o.a.now o.b.now o.from o.to c.requires.1) first second high (omega arith) (omega (arith, announced)) (omega (arith, announced, size)))

pub byte_at-requires-4 : goal.byte_at-requires-4
byte_at-requires-4 c = omega arith

pub returns-then-byte_at-joined_sum : goal.returns-then-byte_at-joined_sum
returns-then-byte_at-joined_sum c =
    let o = c.args in
    let size = size o.a.now o.b.now o.from o.to c.requires.1 in
    let first = byte0 o.a.now o.b.now o.from o.to c.requires.1 c.byte_at.result (omega arith) c.byte_at.ensures ∙ c.if-byte_at-ne-HEAD_1.false in
    let second = byte o.a.now o.b.now o.from o.to c.requires.1 1 c.byte_at-2.result (omega arith) c.byte_at-2.ensures ∙ c.if-byte_at.false in
    let high : get_or (seen o.a.now o.b.now o.from o.to c.requires.1) 4 0 ≤ 2 =
    omega (arith, byte o.a.now o.b.now o.from o.to c.requires.1 4 c.byte_at-3.result (omega arith) c.byte_at-3.ensures, c.if-byte_at-gt-MAX_HIGH.false) in
    let announced = announced o.a.now o.b.now o.from o.to c.requires.1 c.length_there-len.result (omega arith) c.length_there-len.ensures.0 in
    let last = last o.a.now o.b.now o.from o.to c.requires.1 c.length_there-len.result announced (omega arith) c.byte_at-4.result c.byte_at-4.ensures in
    let sum = sum o.a.now o.b.now o.from o.to c.requires.1 c.length_there-len.result announced (omega arith) c.joined_sum.result c.joined_sum.ensures in
    sym (dead-sum (seen o.a.now o.b.now o.from o.to c.requires.1) first second high (omega arith) (omega (arith, announced)) (omega (arith, announced, size))
    (λ w. c.if-byte_at-joined_sum.true (sym last ∙ w ∙ sum)))

pub returns : goal.returns
returns c =
    let o = c.args in
    let size = size o.a.now o.b.now o.from o.to c.requires.1 in
    let first = byte0 o.a.now o.b.now o.from o.to c.requires.1 c.byte_at.result (omega arith) c.byte_at.ensures ∙ c.if-byte_at-ne-HEAD_1.false in
    let second = byte o.a.now o.b.now o.from o.to c.requires.1 1 c.byte_at-2.result (omega arith) c.byte_at-2.ensures ∙ c.if-byte_at.false in
    let high : get_or (seen o.a.now o.b.now o.from o.to c.requires.1) 4 0 ≤ 2 =
    omega (arith, byte o.a.now o.b.now o.from o.to c.requires.1 4 c.byte_at-3.result (omega arith) c.byte_at-3.ensures, c.if-byte_at-gt-MAX_HIGH.false) in
    let announced = announced o.a.now o.b.now o.from o.to c.requires.1 c.length_there-len.result (omega arith) c.length_there-len.ensures.0 in
    let last = last o.a.now o.b.now o.from o.to c.requires.1 c.length_there-len.result announced (omega arith) c.byte_at-4.result c.byte_at-4.ensures in
    let sum = sum o.a.now o.b.now o.from o.to c.requires.1 c.length_there-len.result announced (omega arith) c.joined_sum.result c.joined_sum.ensures in
    sym (whole_sum (seen o.a.now o.b.now o.from o.to c.requires.1) first second high (omega arith) (omega (arith, announced)) (omega (arith, announced, size))
    (last ∙ c.if-byte_at-joined_sum.false ∙ sym sum))
