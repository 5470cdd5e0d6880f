-- docs/CONSOLE.md, "Lines": "A line ends with a newline; the last one may do without. It has at most 65,535 bytes." Which bytes a read
-- brings no definition can say. Assumes nothing.
use Rattle.std.specs.Prelude.{◌≡◌, ℕ, ◌+◌, ◌%◌, ◌^◌, ◌<◌, ◌≤◌, Bool, true, false, cond, ◌⊎◌, List, [], ◌∷◌, ◌++◌, suc, length, take, ◌==◌, ◌≢◌, nat_lt, slice_index, Option, IfSome}
use Rattle.std.proofs.Math.Seq.{slice}
use Rattle.lines.specs.declared.lines.Lines.{Lines}
use Rattle.lines.specs.declared.lines.Next.{Next}
use Rattle.lines.specs.declared.lines.Kind.{Kind}
use Rattle.lines.specs.declared.lines.Kind.TheVariants.{Line, TooLong, Unfinished, None}

-- "It has at most 65,535 bytes": a longest line and its newline
abbrev pub line_buffer : ℕ
line_buffer = 65536

abbrev pub newline_byte : ℕ
newline_byte = 10

-- the program's places and counts have 64 bits
abbrev pub wrapped_sum : ℕ → ℕ → ℕ
wrapped_sum a b = (a + b) % 2 ^ 64

-- nothing is read yet
abbrev pub no_lines : Lines
no_lines = record { at = 0; end = 0; number = 0; is_passing = false; is_over = false; failed = false }

-- one place further, unless the first byte is the one that is sought
unfoldable pub index_after : Bool → ℕ → ℕ
index_after true k = 0
index_after false k = suc k

-- the place of the first such byte; the length where there is none
unfoldable pub index_of : ℕ → List ℕ → ℕ
index_of b [] = 0
index_of b (x ∷ s) = index_after (x == b) (index_of b s)

-- how many bytes stand before the first newline; all of them where there is none
abbrev pub line_in : List ℕ → ℕ
line_in s = index_of newline_byte s

-- ---- the next line

module _ (l : Lines) where
  -- the bytes that are not told yet
  abbrev pub waiting_in : List ℕ → List ℕ
  waiting_in input = slice l.at l.end input

  -- with another place and number, within a line that is too long or not
  abbrev pub moved_to : ℕ → ℕ → Bool → Lines
  moved_to at number passing =
      record { at = at; end = l.end; number = number; is_passing = passing; is_over = l.is_over; failed = l.failed }

  -- with what comes next
  abbrev pub next_with : Kind → Next
  next_with k = record { kind = k; lines = l }

-- "every line counted": one that began within a line too long is the end of that one
abbrev pub line_told : Lines → ℕ → ℕ → Next
line_told l from n =
    let next = moved_to l l.at (wrapped_sum l.number 1) false in
    cond l.is_passing (next_with next TooLong) (next_with next (Line from n))

module _ (l : Lines) where
  -- "A line ends with a newline": of n bytes, and the newline is passed
  abbrev pub line_ended : ℕ → Next
  line_ended n = line_told (moved_to l (wrapped_sum (wrapped_sum l.at n) 1) l.number l.is_passing) l.at n

  -- "the last one may do without": of the n bytes that are left; where there are none there is no line
  abbrev pub last_line : ℕ → Next
  last_line n =
      let line = line_told (moved_to l l.end l.number l.is_passing) l.at n in
      cond l.is_passing line (cond (n == 0) (next_with l None) line)

  -- all of them are of a line too long, and are not kept
  abbrev pub passed_over : Next
  passed_over = next_with (moved_to l l.end l.number true) Unfinished

  -- the line is not at its end
  abbrev pub more_wanted : Next
  more_wanted = cond l.is_passing passed_over (next_with l Unfinished)

  -- what comes next, where so many bytes are not told yet, n of them before the first newline. "It has at most 65,535 bytes": a full
  -- buffer without a newline is of a line too long
  unfoldable pub next_of : ℕ → ℕ → Next
  next_of n waiting =
      cond (nat_lt n waiting) (line_ended n) (cond (nat_lt n line_buffer) (cond l.is_over (last_line n) more_wanted) passed_over)

  abbrev pub next_line : List ℕ → Next
  next_line input = next_of (line_in (waiting_in l input)) (length (waiting_in l input))

-- ---- reading on

-- they stand at the front now
pub record ToFront (waiting : List ℕ) (n : ℕ) (after : List ℕ) : Type 0 where
  pub counts : n ≡ length waiting
  pub fits : n ≤ line_buffer
  pub stands : take n after ≡ waiting

-- a read with room for so many bytes; a failed one brings none
abbrev pub GotWithin : ℕ → Option ℕ → Type 0
GotWithin room got = IfSome got (λ count. count ≤ room)

-- a read to behind the first bytes
pub record GotBehind (kept : ℕ) (input : List ℕ) (got : Option ℕ) (after : List ℕ) : Type 0 where
  pub stays : take kept after ≡ take kept input
  pub within : IfSome got (λ count. kept + count ≤ length input)

-- what is not told yet is kept, and what was read stands behind it. The input is over once a read brings nothing; a failed one brings none
pub record ReadOn (l : Lines) (input : List ℕ) (r : Lines) (after : List ℕ) : Type 0 where
  pub starts : r.at ≡ 0
  pub keeps : take (length (waiting_in l input)) after ≡ waiting_in l input
  pub grows : length (waiting_in l input) ≤ r.end
  pub within : r.end ≤ line_buffer
  pub ends : r.is_over ≡ (r.end == length (waiting_in l input))
  pub fails : r.failed ≡ true → r.is_over ≡ true
  pub counts : r.number ≡ l.number
  pub passes : r.is_passing ≡ l.is_passing

-- ---- claims

-- the bytes of a line that is told, of n bytes
abbrev pub line_of : ℕ → ℕ → List ℕ → List ℕ
line_of from n input = slice from (from + n) input

-- a line of n bytes that is told: where it stands among the bytes that were not told yet, with those that are left now, and what it is
-- made of
pub record Told (l : Lines) (input : List ℕ) (from n : ℕ) (left : Lines) : Type 0 where
  -- "A line ends with a newline; the last one may do without."
  pub stands : (waiting_in l input ≡ line_of from n input ++ (newline_byte ∷ waiting_in left input))
      ⊎ ((l.is_over ≡ true) × (waiting_in l input ≡ line_of from n input) × (waiting_in left input ≡ []))
  pub one : (i : ℕ) → i < n → slice_index (line_of from n input) i ≢ newline_byte
  pub counts : length (line_of from n input) ≡ n
  -- "It has at most 65,535 bytes."
  pub short : n < line_buffer

-- what comes next is told, where it is a line
abbrev pub KindTold : Lines → List ℕ → Kind → Lines → Type 0
KindTold l input (Line from n) left = Told l input from n left
KindTold l input TooLong left = Unit
KindTold l input Unfinished left = Unit
KindTold l input None left = Unit

-- The claim, from every place and in every buffer.
abbrev pub LinesTold : Type 0
LinesTold = (l : Lines) (input : List ℕ) → length input ≤ line_buffer → KindTold l input (next_line l input).kind (next_line l input).lines

-- The claim: more is asked for only where a read has room for it, so that one that brings nothing is at the input's end.
abbrev pub RoomToRead : Type 0
RoomToRead =
    (l : Lines) (input : List ℕ) → (next_line l input).kind ≡ Unfinished → length (waiting_in (next_line l input).lines input) < line_buffer

-- The claim: no line is left out at the end.
abbrev pub NoneLeft : Type 0
NoneLeft =
    (l : Lines) (input : List ℕ) → (next_line l input).kind ≡ None
    → (l.is_over ≡ true) × (l.is_passing ≡ false) × (waiting_in l input ≡ [])
