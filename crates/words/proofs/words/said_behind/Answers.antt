-- `words::words::said_behind` meets its contract. Assumes nothing.
use mathlib.Core.Path.{ap, ◌∙◌}
use Rattle.text.specs.Numbers.{number_said}
use Rattle.words.proofs.words.said_behind.Goals as goal

pub returns : goal.returns
returns c = c.number.ensures ∙ ap number_said c.behind.ensures
