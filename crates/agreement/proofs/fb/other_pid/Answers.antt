-- `agreement::fb::other_pid` meets its contract. Assumes nothing.
use mathlib.Core.Path.{ap, ◌∙◌}
use mathlib.Core.Bool.{not}
use Rattle.sequences.proofs.Sames.{equality_is_same}
use Rattle.agreement.proofs.fb.other_pid.Goals as goal

pub returns : goal.returns
returns c = c.ne.ensures ∙ ap not (equality_is_same c.args.r.pid c.args.board.pid)
