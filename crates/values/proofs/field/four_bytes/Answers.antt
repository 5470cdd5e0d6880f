-- `values::field::four_bytes` meets its contract. Assumes nothing.
use borrow.Author.Tests.{eq-eqb, ne_eqb}
use mathlib.Core.Path.{ap}
use Rattle.text.specs.Outputs.{none, more}
use Rattle.text.proofs.Texts.{texts_as}
use Rattle.values.specs.Bytes.{digit_texts}
use Rattle.values.proofs.field.four_bytes.Goals as goal

pub returns-then-before-after : goal.returns-then-before-after
returns-then-before-after c =
    simp (ne_eqb _ _ c.if-before-after.true) (more c.text.ensures (texts_as (ap digit_texts c.bytes32.ensures) c.digits.ensures))

pub returns-else-before-after : goal.returns-else-before-after
returns-else-before-after c = simp (eq-eqb _ _ c.if-before-after.false) none
