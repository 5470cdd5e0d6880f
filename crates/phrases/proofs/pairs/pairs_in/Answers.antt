-- `phrases::pairs::pairs_in` meets its contract. The loop's invariant: what stands before the place is pairs, so many, and no space stands
-- there. Assumes nothing.
use mathlib.Core.Path.{◌≡◌, sym, ap, ◌∙◌}
use mathlib.Core.Bool.{true, false}
use native.Mathlib.Omega.{arith}
use lib.ListN.{length, drop, drop_of_length-le, length-drop}
use Rattle.phrases.specs.Spaces.{is_space}
use Rattle.phrases.specs.Pairs.{is_pair, are_pairs, bytes_in}
use Rattle.phrases.proofs.Fronts.{count-short}
use Rattle.phrases.proofs.Hexes.{spaces-passed, no_pair, pair_passed, is_so, is-not}
use Rattle.phrases.proofs.pairs.pairs_in.Goals as goal

pub loop-at-init : goal.loop-at-init
loop-at-init c =
    let s = c.args.s.now in
    let start = c.spaces-at.ensures in
    let p = spaces-passed s in (
      omega (arith, start, count-short is_space s),
      (omega arith, rw start (p.none, (p.right, omega (arith, ap length p.bytes)))),
    )

pub returns-then-is_bad_pair : goal.returns-then-is_bad_pair
returns-then-is_bad_pair c =
    let l = c.loop-at in
    let s = c.args.s.now in
    let other : is_pair (drop l.at s) ≡ false = is-not _ (sym c.is_bad_pair.ensures ∙ c.if-is_bad_pair.true) in
    let wrong = l.invariant.1.1.1.0 ∙ no_pair (drop l.at s) l.invariant.1.1.0 (omega (arith, length-drop l.at s)) other in
    simp wrong

pub overflow_add-at : goal.overflow_add-at
overflow_add-at c =
    let l = c.loop-at in
    let s = c.args.s.now in
    let pair : is_pair (drop l.at s) ≡ true = is_so _ (sym c.is_bad_pair.ensures ∙ c.if-is_bad_pair.false) in
    omega (arith, (pair_passed s l.at l.invariant.1.1.0 pair).within)

pub loop-at-smaller : goal.loop-at-smaller
loop-at-smaller c = omega (arith, c.spaces_end-at.ensures)

pub loop-at-preserved : goal.loop-at-preserved
loop-at-preserved c =
    let l = c.loop-at in
    let s = c.args.s.now in
    let pair : is_pair (drop l.at s) ≡ true = is_so _ (sym c.is_bad_pair.ensures ∙ c.if-is_bad_pair.false) in
    let p = pair_passed s l.at l.invariant.1.1.0 pair in
    let next = c.spaces_end-at.ensures in
    rw next (
      p.within,
      (
        omega arith,
        (p.none, (l.invariant.1.1.1.0 ∙ p.right, omega (arith, l.invariant.1.1.1.1, ap length p.bytes))),
      ),
    )

pub returns : goal.returns
unfolding are_pairs bytes_in
returns c =
    let l = c.loop-at in
    let s = c.args.s.now in
    let none = drop_of_length-le s {i = l.at} c.loop-at-test.false in
    let right : are_pairs s ≡ true = l.invariant.1.1.1.0 ∙ ap are_pairs none in
    let all : length (bytes_in s) ≡ l.count = omega (arith, l.invariant.1.1.1.1, ap (λ t. length (bytes_in t)) none) in
    simp (right, all)
