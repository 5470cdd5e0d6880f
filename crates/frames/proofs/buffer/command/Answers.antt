-- `frames::buffer::command` meets its contract. Assumes nothing.
use mathlib.Core.Path.{sym, ◌∙◌}
use native.Mathlib.Omega.{arith}
use Rattle.fronts.specs.Frame.{frame_at}
use Rattle.frames.specs.Buffer.{whole_at, command_at}
use Rattle.fronts.proofs.Fronts.{is-whole, whole-passed}
use Rattle.frames.proofs.buffer.command.Goals as goal

pub bounds-s-3 : goal.bounds-s-3
unfolding whole_at
bounds-s-3 c =
    omega (arith, (whole-passed _ (is-whole _ (sym c.whole.ensures ∙ c.if-whole.true))).there)

pub returns-then-whole : goal.returns-then-whole
unfolding command_at frame_at
returns-then-whole c = simp (sym c.whole.ensures ∙ c.if-whole.true)

pub returns-else-whole : goal.returns-else-whole
unfolding command_at
returns-else-whole c = simp (sym c.whole.ensures ∙ c.if-whole.false)
