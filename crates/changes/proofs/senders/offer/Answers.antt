-- `changes::senders::offer` meets its contract. Assumes nothing.
use Rattle.text.proofs.Texts.{◌then◌}
use Rattle.changes.proofs.senders.offer.Goals as goal

pub returns : goal.returns
returns c =
    c.channel.ensures
    then c.bytes.ensures
    then c.bytes-2.ensures
    then c.bytes-3.ensures
    then c.number.ensures
    then c.number-2.ensures
