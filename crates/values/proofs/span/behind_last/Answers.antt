-- `values::span::behind_last` meets its contract. The loop's invariant: the last place is among those that are left. Assumes nothing.
use borrow.Author.Tests.{eq-eqb, ne_eqb}
use mathlib.Core.Path.{◌≡◌, refl, sym, ap, ◌∙◌}
use mathlib.Core.Bool.{not}
use Prim.Native.Nat.{◌+◌, ◌-◌}
use native.Mathlib.Omega.{arith}
use Rattle.values.specs.Spans.{changed_at}
use Rattle.values.proofs.Spans.{behind_hit, behind_miss, behind-none}
use Rattle.values.proofs.span.behind_last.Goals as goal

pub loop-last-init : goal.loop-last-init
loop-last-init c = refl

pub returns-then-before-last : goal.returns-then-before-last
returns-then-before-last c =
    let a = c.args in
    let p = changed_at a.before.now a.after.now in
    let here : c.loop-last.last - 1 + 1 ≡ c.loop-last.last = omega arith in
    here ∙ sym (behind_hit p c.loop-last.last c.loop-last-test.true (ap not (ne_eqb _ _ c.if-before-last.true)))
    ∙ c.loop-last.invariant

pub loop-last-preserved : goal.loop-last-preserved
loop-last-preserved c =
    let a = c.args in
    let p = changed_at a.before.now a.after.now in
    sym (behind_miss p c.loop-last.last c.loop-last-test.true (ap not (eq-eqb _ _ c.if-before-last.false)))
    ∙ c.loop-last.invariant

pub returns : goal.returns
returns c =
    let a = c.args in
    sym (behind-none (changed_at a.before.now a.after.now) c.loop-last.last (omega arith)) ∙ c.loop-last.invariant
