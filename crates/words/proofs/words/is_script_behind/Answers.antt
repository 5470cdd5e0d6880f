-- `words::words::is_script_behind` meets its contract. Assumes nothing.
use mathlib.Core.Path.{ap, ◌∙◌}
use Rattle.link.specs.Scripts.{all_letters}
use Rattle.words.proofs.words.is_script_behind.Goals as goal

pub returns : goal.returns
returns c = c.is_script.ensures ∙ ap all_letters c.behind.ensures
