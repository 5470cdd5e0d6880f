-- `changes::record::identity` meets its contract. Assumes nothing.
use Rattle.text.proofs.Texts.{◌then◌}
use Rattle.changes.proofs.record.identity.Goals as goal

pub returns : goal.returns
returns c = c.channel.ensures then c.bytes.ensures then c.number.ensures then c.bytes-2.ensures then c.four_bytes.ensures
