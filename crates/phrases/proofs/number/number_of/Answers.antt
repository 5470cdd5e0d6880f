-- `phrases::number::number_of` meets its contract. The loop's invariant: the digits so far say a value that is not above the most.
-- Assumes nothing.
use borrow.Author.Tests.{lt-ltb, le-ltb, ltb-true}
use mathlib.Core.Path.{◌≡◌, refl, sym, ◌∙◌}
use Prim.Native.Nat.{◌+◌, ◌*◌, ◌<◌}
use native.Mathlib.Omega.{arith}
use lib.ListN.{drop}
use Rattle.phrases.specs.Numbers.{value_behind, number_of}
use Rattle.phrases.proofs.Values.{at_least, one_more, no_more, not-above}
use Rattle.phrases.proofs.number.number_of.Goals as goal

pub loop-b-init : goal.loop-b-init
loop-b-init c = (omega arith, refl)

pub returns-then-is_above : goal.returns-then-is_above
unfolding number_of
returns-then-is_above c =
    let d = c.digit-d in
    let l = c.loop-b in
    let a = c.args in
    let s = a.digits.now in
    let next = 10 * l.value + d.result in
    let big : a.most < next = ltb-true _ _ (sym c.is_above.ensures ∙ c.if-is_above.true) in
    let said : value_behind 0 s ≡ value_behind next (drop (l.b-index + 1) s) =
    l.invariant.1 ∙ one_more s l.value l.b-index d.result (omega arith) d.ensures in
    let grows = at_least next (drop (l.b-index + 1) s) in
    let over : a.most < value_behind 0 s = omega arith in
    simp (lt-ltb _ _ over)

pub overflow_mul-value : goal.overflow_mul-value
overflow_mul-value c =
    let l = c.loop-b in
    let a = c.args in
    let next = 10 * l.value + c.digit-d.result in
    omega (arith, not-above a.most next c.is_above.ensures c.if-is_above.false)

pub overflow_add-value : goal.overflow_add-value
overflow_add-value c =
    let l = c.loop-b in
    let a = c.args in
    let next = 10 * l.value + c.digit-d.result in
    omega (arith, not-above a.most next c.is_above.ensures c.if-is_above.false)

pub loop-b-preserved : goal.loop-b-preserved
loop-b-preserved c =
    let d = c.digit-d in
    let l = c.loop-b in
    let a = c.args in
    let below = not-above a.most (10 * l.value + d.result) c.is_above.ensures c.if-is_above.false in
    let said = l.invariant.1 ∙ one_more a.digits.now l.value l.b-index d.result (omega arith) d.ensures in
    (below, said)

pub returns : goal.returns
unfolding number_of
returns c =
    let l = c.loop-b in
    let a = c.args in
    let said : value_behind 0 a.digits.now ≡ l.value = l.invariant.1 ∙ no_more a.digits.now l.value l.b-index (omega arith) in
    simp (said, le-ltb _ _ l.invariant.0)
