-- `values::field::phase` meets its contract. Assumes nothing.
use mathlib.Core.Path.{sym, ◌∙◌}
use Rattle.text.specs.Outputs.{none, more}
use Rattle.text.proofs.Texts.{one}
use Rattle.values.proofs.field.phase.Goals as goal

pub returns-then-not-same : goal.returns-then-not-same
returns-then-not-same c = simp (sym c.same.ensures ∙ c.if-not-same.true) (more c.text.ensures (one c.text-then-not-same.ensures))

pub returns-else-not-same : goal.returns-else-not-same
returns-else-not-same c = simp (sym c.same.ensures ∙ c.if-not-same.false) none
