-- `changes::record::opening` meets its contract. Assumes nothing.
use Rattle.text.proofs.Texts.{◌then◌}
use Rattle.changes.proofs.record.opening.Goals as goal

pub returns : goal.returns
returns c = c.number.ensures then c.boards.ensures then c.number-2.ensures
