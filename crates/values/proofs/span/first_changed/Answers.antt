-- `values::span::first_changed` meets its contract. The loop's invariant: the search from place i on finds what the whole search finds.
-- Assumes nothing.
use borrow.Author.Tests.{eq-eqb, ne_eqb}
use mathlib.Core.Path.{◌≡◌, refl, sym, ap, ◌∙◌}
use mathlib.Core.Bool.{not}
use native.Mathlib.Omega.{arith}
use Rattle.sequences.proofs.Searches.{find_hit, find_miss, find_end}
use Rattle.values.specs.Spans.{changed_at}
use Rattle.values.proofs.span.first_changed.Goals as goal

pub loop-i-init : goal.loop-i-init
loop-i-init c = record { within = omega arith; found = refl }

pub returns-then-before-i : goal.returns-then-before-i
returns-then-before-i c =
    let a = c.args in
    let p = changed_at a.before.now a.after.now in
    sym (find_hit p a.end c.loop-i.i c.loop-i-test.true (ap not (ne_eqb _ _ c.if-before-i.true)))
    ∙ c.loop-i.invariant.found

pub loop-i-preserved : goal.loop-i-preserved
loop-i-preserved c =
    let a = c.args in
    let p = changed_at a.before.now a.after.now in
    record {
      within = omega arith;
      found =
          find_miss p a.end c.loop-i.i c.loop-i-test.true (ap not (eq-eqb _ _ c.if-before-i.false))
          ∙ c.loop-i.invariant.found;
    }

pub returns : goal.returns
returns c =
    let a = c.args in
    let here : c.larger.result ≡ c.loop-i.i = omega (arith, c.larger.ensures, c.loop-i-test.false) in
    here ∙ sym (find_end (changed_at a.before.now a.after.now) a.end c.loop-i.i c.loop-i-test.false) ∙ c.loop-i.invariant.found
