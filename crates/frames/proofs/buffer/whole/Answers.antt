-- `frames::buffer::whole` meets its contract. Assumes nothing.
use mathlib.Core.Path.{ap, ◌∙◌}
use Rattle.fronts.specs.Fronts.{is_whole}
use Rattle.frames.specs.Buffer.{whole_at}
use Rattle.frames.proofs.Wholes.{equality_is_whole}
use Rattle.frames.proofs.buffer.whole.Goals as goal

pub returns : goal.returns
unfolding whole_at
returns c = c.eq.ensures ∙ equality_is_whole c.front_of.result ∙ ap is_whole c.front_of.ensures
