-- 01, "Frames from the bench": what the replay program writes, "per frame, its first byte's place in the capture (decimal, from 0),
-- command (hex), outcome and reply (`-` for none), then all drops". A line is four words with a space between them and an end of line;
-- hexadecimal is in upper case, two digits to a byte. So P10 gives `6 FE 0 55AA00FE00020A030C` and `end dropped 6`. That the lines
-- reach standard output no definition can say. Assumes nothing.
use Rattle.std.specs.Prelude.{◌≡◌, ℕ, ◌+◌, ◌≤◌, List, [], ◌∷◌, ◌++◌, length, take}
use Rattle.text.specs.Hex.{hex_byte, hex_bytes}
use Rattle.text.specs.Decimals.{Decimal}
use Rattle.account.specs.declared.line.Line.{Line}

abbrev pub space : List ℕ
space = 32 ∷ []

abbrev pub newline : List ℕ
newline = 10 ∷ []

-- "reply (`-` for none)"
abbrev pub reply_text : List ℕ → List ℕ
reply_text [] = 45 ∷ []
reply_text (b ∷ s) = hex_bytes (b ∷ s)

-- the text of a frame's line
pub record FrameText (place command outcome : ℕ) (reply text : List ℕ) : Type 0 where
  pub place_text : List ℕ
  pub outcome_text : List ℕ
  pub is-place : Decimal place place_text
  pub is-outcome : Decimal outcome outcome_text
  pub is : text ≡ place_text ++ (space ++ (hex_byte command ++ (space ++ (outcome_text ++ (space ++ (reply_text reply ++ newline))))))

-- the text of the last line, as P10's `end dropped 6`
pub record EndText (dropped : ℕ) (text : List ℕ) : Type 0 where
  pub dropped_text : List ℕ
  pub is-dropped : Decimal dropped dropped_text
  pub is : text ≡ (101 ∷ 110 ∷ 100 ∷ 32 ∷ 100 ∷ 114 ∷ 111 ∷ 112 ∷ 112 ∷ 101 ∷ 100 ∷ 32 ∷ []) ++ (dropped_text ++ newline)

-- ---- a line that is being made

abbrev pub max_line : ℕ
max_line = 112

abbrev pub line_text : Line → List ℕ
line_text l = take l.count l.bytes

-- r is l with t behind it
pub record Adds (l : Line) (t : List ℕ) (r : Line) : Type 0 where
  pub says : line_text r ≡ line_text l ++ t
  pub counts : r.count ≡ l.count + length t
  pub keeps : length r.bytes ≡ length l.bytes

-- r is l with n in decimal behind it
pub record AddsDecimal (l : Line) (n : ℕ) (r : Line) : Type 0 where
  pub text : List ℕ
  pub is-decimal : Decimal n text
  pub short : length text ≤ 20
  pub adds : Adds l text r
