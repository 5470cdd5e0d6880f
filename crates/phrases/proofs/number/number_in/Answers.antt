-- `phrases::number::number_in` meets its contract. Assumes nothing.
use borrow.Author.Tests.{lt-ltb, le-ltb, eq-eqb, ne_eqb}
use mathlib.Core.Path.{ap, ◌∙◌}
use native.Mathlib.Omega.{arith}
use lib.ListN.{drop, length-drop}
use Rattle.phrases.specs.Spaces.{front_count, is_space}
use Rattle.phrases.specs.Numbers.{is_digit, number_in}
use Rattle.phrases.proofs.Fronts.{count-short}
use Rattle.phrases.proofs.number.number_in.Goals as goal

pub returns-then-start-eq0 : goal.returns-then-start-eq0
unfolding number_in
returns-then-start-eq0 c = simp (← c.spaces-start.ensures, eq-eqb _ _ c.if-start-eq0.true)

pub returns-then-count-eq0 : goal.returns-then-count-eq0
unfolding number_in
returns-then-count-eq0 c =
    simp (
      ← c.spaces-start.ensures,
      ne_eqb _ _ c.if-start-eq0.false,
      ← c.behind-rest.ensures,
      ← c.digits-count.ensures,
      eq-eqb _ _ c.if-count-eq0.true,
    )

pub returns-then-count-gt-MOST_DIGITS : goal.returns-then-count-gt-MOST_DIGITS
unfolding number_in
returns-then-count-gt-MOST_DIGITS c =
    simp (
      ← c.spaces-start.ensures,
      ne_eqb _ _ c.if-start-eq0.false,
      ← c.behind-rest.ensures,
      ← c.digits-count.ensures,
      ne_eqb _ _ c.if-count-eq0.false,
      lt-ltb _ _ c.if-count-gt-MOST_DIGITS.true,
    )

pub overflow_add-start : goal.overflow_add-start
overflow_add-start c =
    let spaces = c.spaces-start in
    let s = c.args.s.now in
    let rest = drop spaces.result s in
    let count = c.digits-count.ensures ∙ ap (front_count is_digit) c.behind-rest.ensures in
    omega (arith, spaces.ensures, count-short is_space s, count, count-short is_digit rest, length-drop spaces.result s)

pub returns : goal.returns
unfolding number_in
returns c =
    simp (
      ← c.spaces-start.ensures,
      ne_eqb _ _ c.if-start-eq0.false,
      ← c.behind-rest.ensures,
      ← c.digits-count.ensures,
      ne_eqb _ _ c.if-count-eq0.false,
      le-ltb _ _ c.if-count-gt-MOST_DIGITS.false,
      ← c.front.ensures,
      c.number_of.ensures,
    )
