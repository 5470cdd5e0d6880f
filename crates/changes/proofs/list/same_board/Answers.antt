-- `changes::list::same_board` meets its contract. Assumes nothing.
use mathlib.Core.Path.{◌∙◌}
use Rattle.changes.proofs.BoardLists.{equal-same}
use Rattle.changes.proofs.list.same_board.Goals as goal

pub returns : goal.returns
returns c = c.eq.ensures ∙ equal-same c.args.a c.args.b
