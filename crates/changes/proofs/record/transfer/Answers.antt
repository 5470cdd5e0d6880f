-- `changes::record::transfer` meets its contract. Assumes nothing.
use Rattle.text.proofs.Texts.{◌then◌}
use Rattle.changes.proofs.record.transfer.Goals as goal

pub returns : goal.returns
returns c = c.leg.ensures then c.number.ensures then c.identity.ensures then c.number-2.ensures then c.check.ensures
