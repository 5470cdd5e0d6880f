-- docs/CONSOLE.md, "Lines": a session, line by line. Which bytes a read brings no definition can say. Assumes nothing.
use Rattle.std.specs.Prelude.{◌≡◌, Bool, true, false, cond, List, ℕ, eqb, length, take, drop}
use Rattle.lines.specs.declared.lines.Lines.{Lines}
use Rattle.lines.specs.declared.lines.Next.{Next}
use Rattle.lines.specs.declared.lines.Kind.{Kind}
use Rattle.lines.specs.declared.lines.Kind.TheVariants.{Line, TooLong, Unfinished, None}
use Rattle.lines.specs.Lines.{no_lines, ReadOn}
use Rattle.phrases.specs.Phrases.{phrase_of, bytes_of}
use Rattle.sequences.specs.Fields.{byte_at}
use Rattle.sequences.specs.Places.{written_at}
use Rattle.text.specs.Ascii.{ascii}
use Rattle.text.specs.declared.output.Output.{Output}
use Rattle.text.specs.Outputs.{Flushed}
use Rattle.desk.specs.declared.run.Run.{Run}
use Rattle.desk.specs.Desks.{empty_desk}
use Rattle.desk.specs.Telling.{DeskTold}
use Rattle.desk.specs.Effects.{line_texts}
use Rattle.desk.specs.Obeying.{obeyed, Done}

abbrev pub fresh_run : Run
fresh_run = record { lines = no_lines; desk = empty_desk; is_over = false }

-- "A line of no bytes, and one that begins with `#`, is passed over"; `#` has the code 35
abbrev pub is_passed_over : List ℕ → Bool
is_passed_over line = cond (eqb (length line) 0) true (eqb (byte_at 0 line) 35)

-- "`a line has at most 65535 bytes`"
abbrev pub long_text : List ℕ
long_text = ascii " bad a line has at most 65535 bytes"

-- with the lines so far, and "counted"
abbrev pub with_lines : Run → Lines → Run
with_lines run l = record { lines = l; desk = run.desk; is_over = run.is_over }

-- nothing is done any more
abbrev pub ended : Run → Lines → Run
ended run l = record { lines = l; desk = run.desk; is_over = true }

-- a command is done, with "the number of its input line"; its bytes are put to the front of those that are lent for them
pub record CommandDone (run : Run) (l : Lines) (line bytes room area image : List ℕ) (o : Output) (r : Run) (bytes' room' area' image' : List ℕ)
    (o' : Output) : Type 0 where
  pub keeps : r.lines ≡ l
  pub goes_on : r.is_over ≡ run.is_over
  pub takes : bytes' ≡ written_at bytes 0 (bytes_of line)
  pub does : Done (obeyed run.desk l.number (phrase_of line) bytes' room area image) o r.desk room' area' image' o'

-- a line: passed over, "Nothing is written for it", or a command
abbrev pub LineDone : Bool → Run → Lines → List ℕ → List ℕ → List ℕ → List ℕ → List ℕ → Output → Run → List ℕ → List ℕ → List ℕ → List ℕ
    → Output → Type 0
LineDone true run l line bytes room area image o r bytes' room' area' image' o' =
    (r ≡ with_lines run l) × ((bytes' ≡ bytes) × ((room' ≡ room) × ((area' ≡ area) × ((image' ≡ image) × (o' ≡ o)))))
LineDone false run l line bytes room area image o r bytes' room' area' image' o' =
    CommandDone run l line bytes room area image o r bytes' room' area' image' o'

-- a line that is too long is told, and changes nothing
pub record PassedTooLong (run : Run) (l : Lines) (o : Output) (r : Run) (o' : Output) : Type 0 where
  pub keeps : r.lines ≡ l
  pub goes_on : r.is_over ≡ run.is_over
  pub tells : DeskTold o run.desk (line_texts l.number long_text) r.desk o'

-- what waits is written, and the input is read on; a failed read, or write, ends the program
pub record InputRead (run : Run) (l : Lines) (input : List ℕ) (o : Output) (r : Run) (input' : List ℕ) (o' : Output) : Type 0 where
  pub keeps : r.desk ≡ run.desk
  pub writes : Flushed o o'
  pub ends : o'.failed ≡ true → (r.lines ≡ l) × ((r.is_over ≡ true) × (input' ≡ input))
  pub reads : o'.failed ≡ false → ReadOn l input r.lines input' × (r.is_over ≡ r.lines.failed)

-- a turn, by what comes next
abbrev pub SessionTurned : Kind → Next → Run → List ℕ → List ℕ → List ℕ → List ℕ → List ℕ → Output → Run → List ℕ → List ℕ → List ℕ → List ℕ
    → List ℕ → Output → Type 0
SessionTurned (Line from n) next run input bytes room area image o r input' bytes' room' area' image' o' =
    let line = take n (drop from input) in
    LineDone (is_passed_over line) run next.lines line bytes room area image o r bytes' room' area' image' o' × (input' ≡ input)
SessionTurned TooLong next run input bytes room area image o r input' bytes' room' area' image' o' =
    PassedTooLong run next.lines o r o'
    × ((input' ≡ input) × ((bytes' ≡ bytes) × ((room' ≡ room) × ((area' ≡ area) × (image' ≡ image)))))
SessionTurned Unfinished next run input bytes room area image o r input' bytes' room' area' image' o' =
    InputRead run next.lines input o r input' o' × ((bytes' ≡ bytes) × ((room' ≡ room) × ((area' ≡ area) × (image' ≡ image))))
SessionTurned None next run input bytes room area image o r input' bytes' room' area' image' o' =
    (r ≡ ended run next.lines)
    × ((input' ≡ input) × ((bytes' ≡ bytes) × ((room' ≡ room) × ((area' ≡ area) × ((image' ≡ image) × (o' ≡ o))))))
