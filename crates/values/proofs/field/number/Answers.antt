-- `values::field::number` meets its contract. Assumes nothing.
use borrow.Author.Tests.{eq-eqb, ne_eqb}
use Rattle.text.specs.Outputs.{none, more}
use Rattle.text.proofs.Texts.{one}
use Rattle.values.proofs.field.number.Goals as goal

pub returns-then-before-after : goal.returns-then-before-after
returns-then-before-after c = simp (ne_eqb _ _ c.if-before-after.true) (more c.text.ensures (one c.decimal.ensures))

pub returns-else-before-after : goal.returns-else-before-after
returns-else-before-after c = simp (eq-eqb _ _ c.if-before-after.false) none
