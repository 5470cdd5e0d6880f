-- Which line comes next. Assumes nothing.
use Rattle.std.proofs.Common.{◌≡◌, ℕ, ◌<◌, ◌≤◌, true, false, List, length, ap, ◌∙◌, ap₂, le-ltb, lt-ltb}
use lib.Seq.{slice}
use Rattle.lines.specs.declared.lines.Lines.{Lines}
use Rattle.lines.specs.Lines.{line_buffer, line_in, line_ended, last_line, more_wanted, passed_over, next_of, next_line}

module _ (l : Lines) where
  pub of-waiting : (s input : List ℕ) {n : ℕ} → n ≡ line_in s → s ≡ slice l.at l.end input → next_of l n (length s) ≡ next_line l input
  of-waiting s input e w = ap₂ (next_of l) (e ∙ ap line_in w) (ap length w)

  module _ (n waiting : ℕ) where
    pub ends-here : n < waiting → line_ended l n ≡ next_of l n waiting
    unfolding next_of
    ends-here h = simp (lt-ltb n waiting h)

    module _ (open-ended : waiting ≤ n) where
      pub is_the_last : n < line_buffer → l.is_over ≡ true → last_line l n ≡ next_of l n waiting
      unfolding next_of
      is_the_last h over = simp (le-ltb n waiting open-ended, lt-ltb n line_buffer h, over)

      pub wants_more : n < line_buffer → l.is_over ≡ false → more_wanted l ≡ next_of l n waiting
      unfolding next_of
      wants_more h over = simp (le-ltb n waiting open-ended, lt-ltb n line_buffer h, over)

      pub is_too_long : line_buffer ≤ n → passed_over l ≡ next_of l n waiting
      unfolding next_of
      is_too_long h = simp (le-ltb n waiting open-ended, le-ltb n line_buffer h)
