-- docs/CONSOLE.md, "Lines" and "Bad lines": a line is a command: "its name ..; then its numbers; then its bytes", or it is bad. How long
-- it may be, and where its bytes go, is no part of this. Assumes nothing.
use Rattle.std.specs.Prelude.{Bool, true, false, cond, Option, is_none, not, ◌&&◌, ◌||◌, List, [], ℕ, ltb, eqb, length, drop}
use Rattle.phrases.specs.declared.table.Row.{Row}
use Rattle.phrases.specs.declared.number.Number.{Number}
use Rattle.phrases.specs.declared.phrase.Phrase.{Phrase}
use Rattle.phrases.specs.declared.phrase.Trouble.{Trouble}
use Rattle.phrases.specs.declared.phrase.Trouble.TheVariants.{Fine, Unknown, FirstNumber, SecondNumber, More, Digits, Count}
use Rattle.phrases.specs.Table.{any_count, row_count, command_row}
use Rattle.phrases.specs.Names.{behind_command, command_place}
use Rattle.phrases.specs.Spaces.{spaces}
use Rattle.phrases.specs.Numbers.{number_if, value_of, end_of}
use Rattle.phrases.specs.Pairs.{are_pairs, bytes_in}

-- the most bytes that can be taken: more than a line of the console can have
abbrev pub max_bytes : ℕ
max_bytes = 65536

-- "it takes exactly K bytes, and there are more or fewer"; or they are more than can be taken
abbrev pub is_bad_count : ℕ → ℕ → Bool
is_bad_count expected n = ltb max_bytes n || (not (eqb expected any_count) && not (eqb n expected))

-- ---- what is the trouble: "the first of these that fits"

-- s stands behind the numbers. "the command takes no bytes, and something else than spaces follows"; "something else stands where its
-- bytes are to be"; "it takes exactly K bytes, and there are more or fewer"
unfoldable pub trouble_behind_numbers : ℕ → List ℕ → Trouble
trouble_behind_numbers expected s =
    cond (eqb expected 0) (cond (ltb (spaces s) (length s)) More Fine)
    (cond (not (are_pairs s)) Digits (cond (is_bad_count expected (length (bytes_in s))) Count Fine))

-- s stands behind the name
module _ (r : Row) (s : List ℕ) where
  abbrev pub first_number : Option Number
  first_number = number_if (ltb 0 r.numbers) r.first s

  abbrev pub behind_first : List ℕ
  behind_first = drop (end_of first_number) s

  abbrev pub second_number : Option Number
  second_number = number_if (ltb 1 r.numbers) r.second behind_first

  abbrev pub behind_numbers : List ℕ
  behind_numbers = drop (end_of second_number) behind_first

  -- "`number 1 is 0 to M`, `number 2 is 0 to M`", and then its bytes
  unfoldable pub trouble_behind_name : Trouble
  trouble_behind_name =
      cond (is_none first_number) FirstNumber (cond (is_none second_number) SecondNumber (trouble_behind_numbers r.bytes behind_numbers))

-- ---- what is read

-- "A line that is no command changes nothing": without a message there is one
abbrev pub is_fine : Trouble → Bool
is_fine Fine = true
is_fine Unknown = false
is_fine FirstNumber = false
is_fine SecondNumber = false
is_fine More = false
is_fine Digits = false
is_fine Count = false

-- a command: its place in the table, its numbers, and how many bytes it gives
abbrev pub fine : ℕ → ℕ → ℕ → ℕ → Phrase
fine command first second count = record { command = command; first = first; second = second; count = count; trouble = Fine }

-- a line that is none; the place is that of the command that it begins with, or the table's length
abbrev pub troubled : ℕ → Trouble → Phrase
troubled command t = record { command = command; first = 0; second = 0; count = 0; trouble = t }

-- a command with these bytes, unless there is trouble
unfoldable pub phrase_with : ℕ → ℕ → ℕ → List ℕ → Trouble → Phrase
phrase_with command first second bytes t = cond (is_fine t) (fine command first second (length bytes)) (troubled command t)

-- the bytes that it gives: with trouble none
unfoldable pub taken : List ℕ → Trouble → List ℕ
taken bytes t = cond (is_fine t) bytes []

-- of the command at a place, with s behind its name
unfoldable pub phrase_behind_name : ℕ → Row → List ℕ → Phrase
phrase_behind_name command r s =
    phrase_with command (value_of (first_number r s)) (value_of (second_number r s)) (bytes_in (behind_numbers r s)) (trouble_behind_name r s)

unfoldable pub bytes_behind_name : Row → List ℕ → List ℕ
bytes_behind_name r s = taken (bytes_in (behind_numbers r s)) (trouble_behind_name r s)

-- a line: "no such command", where no name of the table stands at its front; else what stands behind the name decides
module _ (line : List ℕ) where
  abbrev place : ℕ
  place = command_place line

  abbrev row : Row
  row = command_row place

  unfoldable pub phrase_of : Phrase
  phrase_of = cond (ltb place row_count) (phrase_behind_name place row (behind_command row line)) (troubled place Unknown)

  -- the bytes that it gives
  unfoldable pub bytes_of : List ℕ
  bytes_of = cond (ltb place row_count) (bytes_behind_name row (behind_command row line)) []
