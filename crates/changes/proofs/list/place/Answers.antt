-- `changes::list::place` meets its contract. Assumes nothing.
use mathlib.Core.Path.{sym, ◌∙◌}
use Rattle.text.specs.Outputs.{none, more}
use Rattle.text.proofs.Texts.{one, ◌then◌}
use Rattle.changes.proofs.list.place.Goals as goal

pub returns-then-not-same_board : goal.returns-then-not-same_board
returns-then-not-same_board c =
    simp (sym c.same_board.ensures ∙ c.if-not-same_board.true)
    (more c.text.ensures (more c.decimal.ensures (one c.text-then-not-same_board.ensures)) then c.board.ensures)

pub returns-else-not-same_board : goal.returns-else-not-same_board
returns-else-not-same_board c = simp (sym c.same_board.ensures ∙ c.if-not-same_board.false) none
