-- What is claimed of the lines that are told, and of those that are not. Assumes nothing.
use Rattle.std.proofs.Common.{◌≡◌, ℕ, suc, ◌+◌, ◌^◌, ◌<◌, ◌≤◌, true, false, eqb, ltb, List, [], ◌∷◌, ◌++◌, length, get_or, take, drop, sym, ap, ◌∙◌, ap₂, inl, inr, mod-eq_of_lt, add-one, arith, length-drop, drop_of_length-le, length-take, length-take-le, take_all, get_or-take, ltb-false, ltb-true, eqb-true}
use lib.Seq.{slice, slice_empty, split_at}
use Rattle.sequences.proofs.Conditionals.{of_each}
use Rattle.sequences.proofs.Slices.{drop-slice}
use Rattle.lines.specs.declared.lines.Lines.{Lines}
use Rattle.lines.specs.declared.lines.Next.{Next}
use Rattle.lines.specs.declared.lines.Kind.TheVariants.{Line, TooLong, Unfinished, None}
use Rattle.lines.specs.Lines.{line_buffer, newline_byte, wrapped_sum, line_in, waiting_in, moved_to}
use Rattle.lines.specs.Lines.{next_with, line_told, line_ended, last_line}
use Rattle.lines.specs.Lines.{passed_over, more_wanted, next_of, Told, KindTold, LinesTold, RoomToRead, NoneLeft}
use Rattle.lines.proofs.Newlines.{line-within, newline-there, no-newline-before}
use Rattle.lines.proofs.Parts.{slice_no_longer, slice_front}

-- ---- what comes next, case by case

-- the end of a line too long, and a line of n bytes: with what is told up to a place
abbrev too_long_to : Lines → ℕ → Next
too_long_to l to = next_with (moved_to l to (wrapped_sum l.number 1) false) TooLong

abbrev line_to : Lines → ℕ → ℕ → Next
line_to l to n = next_with (moved_to l to (wrapped_sum l.number 1) false) (Line l.at n)

module _ (P : Next → Type 0) (l : Lines) (n : ℕ) where
  told_cases : (to : ℕ) → P (too_long_to l to) → P (line_to l to n) → P (line_told (moved_to l to l.number l.is_passing) l.at n)
  told_cases to long line = of_each P l.is_passing (too_long_to l to) (line_to l to n) (λ _. long) (λ _. line)

  last_cases : P (too_long_to l l.end)
      → P (line_to l l.end n)
      → (l.is_passing ≡ false → n ≡ 0 → P (next_with l None))
      → P (last_line l n)
  last_cases long line none =
      of_each P l.is_passing _ _ (λ _. told_cases l.end long line)
      (λ fresh. of_each P (eqb n 0) _ _ (λ z. none fresh (eqb-true n 0 z)) (λ _. told_cases l.end long line))

  next_cases : (waiting : ℕ)
      → (n < waiting → P (line_ended l n))
      → (waiting ≤ n → n < line_buffer → l.is_over ≡ true → P (last_line l n))
      → (waiting ≤ n → n < line_buffer → P (more_wanted l))
      → P (passed_over l)
      → P (next_of l n waiting)
  unfolding next_of
  next_cases waiting ended last more over =
      of_each P (ltb n waiting) _ _ (λ e. ended (ltb-true n waiting e))
      (λ e. of_each P (ltb n line_buffer) _ _
      (λ f. of_each P l.is_over _ _
      (λ o. last (ltb-false n waiting e) (ltb-true n line_buffer f) o)
      (λ _. more (ltb-false n waiting e) (ltb-true n line_buffer f)))
      (λ _. over))

-- two kinds are never equal: `cc` finds the premise
never : {A : Type 0} → ◌≡◌ {A = ℕ} 0 1 → A
never z = absurd (omega arith)

-- ---- a line that is told

module _ (l : Lines) (input : List ℕ) where
  abbrev waiting : List ℕ
  waiting = waiting_in l input

  abbrev n : ℕ
  n = line_in waiting

  abbrev line : List ℕ
  line = slice l.at (l.at + n) input

  line-cut : line ≡ take n waiting
  line-cut = slice_front l.at l.end n input (line-within waiting)

  no-newline : (i : ℕ) → i < n → get_or line i 0 ≡ newline_byte → ⊥
  no-newline i h e =
      no-newline-before waiting i h (sym (get_or-take n waiting i 0 h) ∙ sym (ap (λ (s : List ℕ). get_or s i 0) line-cut) ∙ e)

  line-size : length line ≡ n
  line-size = ap length line-cut ∙ length-take-le n waiting (line-within waiting)

  -- up to its newline
  module _ (fits : length input ≤ line_buffer) (ended : n < length waiting) where
    abbrev next : ℕ
    next = wrapped_sum (wrapped_sum l.at n) 1

    behind : l.at + n < line_buffer
    behind = omega (arith, length-drop l.at (take l.end input), length-take l.end input)

    place : next ≡ l.at + (n + 1)
    place =
        let first : wrapped_sum l.at n ≡ l.at + n = mod-eq_of_lt (omega (arith, behind)) in
        let both : l.at + n + 1 < 2 ^ 64 = omega (arith, behind) in
        ap (λ (k : ℕ). wrapped_sum k 1) first ∙ mod-eq_of_lt both ∙ (let e : l.at + n + 1 ≡ l.at + (n + 1) = omega arith in e)

    left : slice next l.end input ≡ drop (suc n) waiting
    left =
        ap (λ (at : ℕ). slice at l.end input) place ∙ sym (drop-slice l.at l.end (n + 1) input)
        ∙ ap (λ (k : ℕ). drop k waiting) (add-one n)

    with_newline : waiting ≡ line ++ (newline_byte ∷ slice next l.end input)
    with_newline =
        split_at waiting n 0 ended
        ∙ ap₂ ◌++◌ (sym line-cut) (ap₂ ◌∷◌ (newline-there waiting ended) (sym left))

    told-ended : Told l input l.at n (line_to l next n).lines
    told-ended =
        record {
          stands = inl with_newline;
          one = no-newline;
          counts = line-size;
          short = omega (arith, slice_no_longer l.at l.end input);
        }

  -- up to the input's end
  module _ (all : length waiting ≤ n) (short : n < line_buffer) (over : l.is_over ≡ true) where
    told-last : Told l input l.at n (line_to l l.end n).lines
    told-last =
        let whole : waiting ≡ line = sym (line-cut ∙ take_all n waiting all) in
        record { stands = inr (over, whole, slice_empty l.end input); one = no-newline; counts = line-size; short = short }

pub lines_told : LinesTold
lines_told l input fits =
    next_cases P l (n l input) (length (waiting l input))
    (λ h. told_cases P l (n l input) (next l input fits h) tt (told-ended l input fits h))
    (λ all short over. last_cases P l (n l input) tt (told-last l input all short over) (λ _ _. tt))
    (λ _ _. of_each P l.is_passing (passed_over l) (next_with l Unfinished) (λ _. tt) (λ _. tt))
    tt
  where
    P : Next → Type 0
    P r = KindTold l input r.kind r.lines

-- ---- where none is told

pub room_to_read : RoomToRead
room_to_read l input =
    next_cases P l (n l input) (length (waiting l input))
    (λ _. told_cases P l (n l input) (wrapped_sum (wrapped_sum l.at (n l input)) 1) (λ e. never (cc)) (λ e. never (cc)))
    (λ _ _ _. last_cases P l (n l input) (λ e. never (cc)) (λ e. never (cc)) (λ _ _ e. never (cc)))
    (λ all short. of_each P l.is_passing (passed_over l) (next_with l Unfinished) (λ _. passed) (λ _ _. omega arith))
    passed
  where
    P : Next → Type 0
    P r = r.kind ≡ Unfinished → length (waiting_in r.lines input) < line_buffer

    passed : P (passed_over l)
    passed _ = omega (arith, ap length (slice_empty l.end input))

pub none_left : NoneLeft
none_left l input =
    next_cases P l (n l input) (length (waiting l input))
    (λ _. told_cases P l (n l input) (wrapped_sum (wrapped_sum l.at (n l input)) 1) (λ e. never (cc)) (λ e. never (cc)))
    (λ all _ over. last_cases P l (n l input) (λ e. never (cc)) (λ e. never (cc))
    (λ fresh z _. (over, fresh, drop_of_length-le (waiting l input) {i = 0} (omega arith))))
    (λ _ _. of_each P l.is_passing (passed_over l) (next_with l Unfinished) (λ _ e. never (cc)) (λ _ e. never (cc)))
    (λ e. never (cc))
  where
    P : Next → Type 0
    P r = r.kind ≡ None → (l.is_over ≡ true) × (l.is_passing ≡ false) × (waiting_in l input ≡ [])
