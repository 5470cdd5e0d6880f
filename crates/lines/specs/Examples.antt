-- Lines of small buffers. Assumes nothing.
use Rattle.std.specs.Prelude.{◌≡◌, ℕ, Bool, true, false, List, [], ◌∷◌}
use Rattle.lines.specs.declared.lines.Lines.{Lines}
use Rattle.lines.specs.declared.lines.Next.{Next}
use Rattle.lines.specs.declared.lines.Kind.TheVariants.{Line, TooLong, Unfinished, None}
use Rattle.lines.specs.Lines.{line_buffer, newline_byte, no_lines, moved_to, next_with, passed_over, next_of, next_line}

-- two lines and a rest: ab, cd, e
abbrev text : List ℕ
text = 97 ∷ 98 ∷ newline_byte ∷ 99 ∷ 100 ∷ newline_byte ∷ 101 ∷ []

-- at a place of it, with so many lines told; nothing more comes, or it may
abbrev reading_at : ℕ → ℕ → Bool → Lines
reading_at at told over = record { at = at; end = 7; number = told; is_passing = false; is_over = over; failed = false }

abbrev line : ℕ → ℕ → Lines → Next
line from n l = next_with l (Line from n)

pub record NextExamples : Type 0 where
  pub first : next_line (reading_at 0 0 false) text ≡ line 0 2 (reading_at 3 1 false)
  pub second : next_line (reading_at 3 1 false) text ≡ line 3 2 (reading_at 6 2 false)
  pub rest : next_line (reading_at 6 2 false) text ≡ next_with (reading_at 6 2 false) Unfinished
  -- "the last one may do without"
  pub last : next_line (reading_at 6 2 true) text ≡ line 6 1 (reading_at 7 3 true)
  pub none : next_line (reading_at 7 3 true) text ≡ next_with (reading_at 7 3 true) None
  -- "A line of no bytes, .., is passed over and counted."
  pub no_bytes : next_line (reading_at 2 0 false) text ≡ line 2 0 (reading_at 3 1 false)
  pub nothing_read : next_line no_lines [] ≡ next_with no_lines Unfinished
  -- a full buffer, and the end of that line
  pub full : next_of (reading_at 0 0 false) line_buffer line_buffer ≡ passed_over (reading_at 0 0 false)
  pub too_long : next_line (moved_to (reading_at 0 0 false) 0 0 true) text ≡ next_with (reading_at 3 1 false) TooLong
