-- `changes::record::reader` meets its contract. Assumes nothing.
use Rattle.text.proofs.Texts.{◌then◌}
use Rattle.changes.proofs.record.reader.Goals as goal

pub returns : goal.returns
returns c = c.number.ensures then c.held.ensures
