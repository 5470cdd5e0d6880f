-- `account::account::line_waits` meets its contract. Assumes nothing.
use Rattle.commands.proofs.Outcomes.{is-same, not-same}
use Rattle.account.proofs.account.line_waits.Goals as goal

pub returns-in-NoFrameYet : goal.returns-in-NoFrameYet
returns-in-NoFrameYet c = simp (is-same _ _ c.in-NoFrameYet.is)

pub returns-in_default : goal.returns-in_default
returns-in_default c = simp (not-same _ _ c.in_default.not-NoFrameYet, c.is_checking.ensures)
