-- `changes::record::record` meets its contract. Assumes nothing.
use Rattle.text.proofs.Texts.{one, ◌then◌}
use Rattle.changes.proofs.record.record.Goals as goal

pub returns : goal.returns
returns c = one c.text.ensures then c.opening.ensures then c.reader.ensures then c.transfer.ensures
