-- `text::number::number` meets its contract. Assumes nothing.
use Rattle.std.proofs.Common.{sym, ap, ◌∙◌, arith, le-ltb, drop_of_length-le}
use Rattle.text.specs.Numbers.{said_behind}
use Rattle.text.proofs.Numbers.{of-five, one_more, no_digit, one_more_digit}
use Rattle.text.proofs.number.number.Goals as goal

pub loop-b-init : goal.loop-b-init
loop-b-init c = record {
  few = omega arith;
  below = omega arith;
  says = simp (← c.is_empty.ensures, c.if-is_empty.false, le-ltb _ _ c.if-digits-gt-MOST_DIGITS.false);
}

pub overflow_mul-n : goal.overflow_mul-n
overflow_mul-n c =
    let l = c.loop-b in
    let few = of-five l.n l.b-index l.invariant.below (omega arith) in
    omega arith

pub overflow_add-n : goal.overflow_add-n
overflow_add-n c =
    let l = c.loop-b in
    let few = of-five l.n l.b-index l.invariant.below (omega arith) in
    let d = one_more_digit c.args.digits.now l.n l.b-index c.loop-b-test.true c.in_ok-n.field-0 (sym c.digit.ensures ∙ c.in_ok-n.was) in
    omega (arith, d.0)

pub returns-in_err-n : goal.returns-in_err-n
returns-in_err-n c =
    let l = c.loop-b in
    let none = no_digit c.args.digits.now l.n l.b-index c.loop-b-test.true (sym c.digit.ensures ∙ c.in_err-n.was) in
    c.from_residual.ensures ∙ sym (l.invariant.says ∙ none)

pub loop-b-preserved : goal.loop-b-preserved
loop-b-preserved c =
    let l = c.loop-b in
    let d = one_more_digit c.args.digits.now l.n l.b-index c.loop-b-test.true c.in_ok-n.field-0 (sym c.digit.ensures ∙ c.in_ok-n.was) in
    record { few = l.invariant.few; below = one_more l.n l.b-index _ l.invariant.below d.0; says = l.invariant.says ∙ d.1 }

pub returns : goal.returns
returns c =
    let l = c.loop-b in
    let s = c.args.digits.now in
    sym (l.invariant.says ∙ ap (said_behind l.n) (drop_of_length-le s {i = l.b-index} (omega arith)))
