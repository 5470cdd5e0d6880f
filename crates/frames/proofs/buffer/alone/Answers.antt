-- `frames::buffer::alone` meets its contract. Assumes nothing.
use mathlib.Core.Path.{sym, ◌∙◌}
use Rattle.frames.specs.Buffer.{alone_at}
use Rattle.frames.proofs.buffer.alone.Goals as goal

pub returns-then-whole : goal.returns-then-whole
unfolding alone_at
returns-then-whole c = simp (sym c.whole.ensures ∙ c.if-whole.true, c.data.ensures.result_value)

pub returns-else-whole : goal.returns-else-whole
unfolding alone_at
returns-else-whole c = c.if-whole.false ∙ simp (sym c.whole.ensures ∙ c.if-whole.false)
